-- Which codes of n bits a component admits, and its code at rest.
use Rattle.std.specs.Prelude.{ℕ, ◌-◌, ◌*◌, ◌^◌, Bool, ◌&&◌, nat_le, nat_lt}
use Rattle.samples.specs.declared.component.Component.{Component}
use Rattle.samples.specs.declared.component.Component.TheVariants.{Luma, Cb, Cr, Alpha}

-- not reserved: neither among the lowest 2 ^ (n - 8) codes nor among the highest
abbrev pub unreserved : ℕ → ℕ → Bool
unreserved n v = nat_le (2 ^ (n - 8)) v && nat_lt v (2 ^ n - 2 ^ (n - 8))

abbrev pub admits : ℕ → Component → ℕ → Bool
admits n Luma v = unreserved n v
admits n Cb v = unreserved n v
admits n Cr v = unreserved n v
admits n Alpha v = nat_lt v (2 ^ n)

abbrev pub rest_of : ℕ → Component → ℕ
rest_of n Luma = 16 * 2 ^ (n - 8)
rest_of n Cb = 128 * 2 ^ (n - 8)
rest_of n Cr = 128 * 2 ^ (n - 8)
rest_of n Alpha = 235 * 2 ^ (n - 8)
