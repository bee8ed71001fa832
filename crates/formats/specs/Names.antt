-- The types by their four letters; any other text is refused by 2.
use Rattle.std.specs.Prelude.{ℕ, cond, List, Ok, Err, codes, Result}
use Rattle.std.specs.Str.{bytes_eq}
use Rattle.samples.specs.declared.fault.Fault.{Fault}
use Rattle.samples.specs.declared.fault.Rule.TheVariants.{UnknownType}
use Rattle.samples.specs.Faults.{refusal}
use Rattle.formats.specs.declared.kind.Kind.{Kind}
use Rattle.formats.specs.declared.kind.Kind.TheVariants.{TwoVuy, V308, V408, V216, V410, V210}

abbrev pub kind_named : List ℕ → Result Kind Fault
kind_named s =
    cond (bytes_eq s (codes "2vuy")) (Ok TwoVuy)
    (cond (bytes_eq s (codes "v308")) (Ok V308)
    (cond (bytes_eq s (codes "v408")) (Ok V408)
    (cond (bytes_eq s (codes "v216")) (Ok V216)
    (cond (bytes_eq s (codes "v410")) (Ok V410)
    (cond (bytes_eq s (codes "v210")) (Ok V210)
    (Err (refusal UnknownType 0)))))))
