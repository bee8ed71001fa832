-- Slots of every type of packing are apart.
use Rattle.std.specs.Prelude.{◌≡◌, true}
use Rattle.samples.specs.declared.bounds.Bits.{Bits}
use Rattle.formats.specs.declared.kind.Kind.{Kind}
use Rattle.formats.specs.declared.kind.Kind.TheVariants.{TwoVuy, V308, V408, V216, V410, V210}
use Rattle.formats.specs.Packing.{Proper}
use Rattle.formats.specs.Formats.{packing_of, takes, SlotsDisjoint}
use Rattle.formats.specs.Six.{proper_2vuy, proper_v308, proper_v408, proper_v216, proper_v410, proper_v210}
use Rattle.formats.proofs.Table.{runs_apart}

pub proper_kind : (k : Kind) (n : Bits) → takes k n.count ≡ true → Proper (packing_of k n)
proper_kind TwoVuy n t = proper_2vuy
proper_kind V308 n t = proper_v308
proper_kind V408 n t = proper_v408
proper_kind V216 n t = proper_v216 n t
proper_kind V410 n t = proper_v410
proper_kind V210 n t = proper_v210

pub slots_disjoint : SlotsDisjoint
slots_disjoint k n t = runs_apart (packing_of k n) (proper_kind k n t)
