-- The refusals: the number, the layer and the place of each rule.
use Rattle.std.specs.Prelude.{ℕ}
use Rattle.samples.specs.declared.fault.Rule.{Rule}
use Rattle.samples.specs.declared.fault.Rule.TheVariants.{UnknownType, Size, Content, ImageLength, NoSite, CodeCount, CodeNotAdmitted, EveryLineCome, LineNotCome}
use Rattle.samples.specs.declared.fault.Fault.{Fault}

abbrev pub rule_number : Rule → ℕ
rule_number UnknownType = 2
rule_number Size = 4
rule_number Content = 9
rule_number ImageLength = 11
rule_number NoSite = 12
rule_number CodeCount = 13
rule_number CodeNotAdmitted = 15
rule_number EveryLineCome = 31
rule_number LineNotCome = 32

-- 1 bytes, 2 fields and samples, 3 labels and frames
abbrev pub rule_layer : Rule → ℕ
rule_layer UnknownType = 3
rule_layer Size = 3
rule_layer Content = 2
rule_layer ImageLength = 1
rule_layer NoSite = 2
rule_layer CodeCount = 2
rule_layer CodeNotAdmitted = 2
rule_layer EveryLineCome = 3
rule_layer LineNotCome = 3

-- the fault of a broken rule, with no letters
abbrev pub refusal : Rule → ℕ → Fault
refusal rule place = record { number = rule_number rule; layer = rule_layer rule; place = place; letters = 0 }
