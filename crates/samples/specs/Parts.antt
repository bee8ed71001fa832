-- Four parts one after the other, in the order of the components, where component k has `size k` members.
use Rattle.std.specs.Prelude.{ℕ, ◌+◌, cond, nat_lt}
use Rattle.samples.specs.declared.component.Component.{Component}
use Rattle.samples.specs.declared.component.Component.TheVariants.{Luma, Cb, Cr, Alpha}

-- how many members stand before those of a component
abbrev pub before : (Component → ℕ) → Component → ℕ
before size Luma = 0
before size Cb = size Luma
before size Cr = size Luma + size Cb
before size Alpha = size Luma + size Cb + size Cr

-- all members
abbrev pub whole : (Component → ℕ) → ℕ
whole size = before size Alpha + size Alpha

-- the component of the member at an index
abbrev pub part_at : (Component → ℕ) → ℕ → Component
part_at size i = cond (nat_lt i (before size Cb)) Luma (cond (nat_lt i (before size Cr)) Cb (cond (nat_lt i (before size Alpha)) Cr Alpha))
