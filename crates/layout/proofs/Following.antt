-- What follows from a layout's laws.
use Rattle.std.proofs.Common.{◌≡◌, ℕ, ◌+◌, ◌*◌, ◌<◌, ◌≤◌, true, Some, None, Option, ap, ◌∙◌, arith}
use Rattle.samples.specs.declared.site.Site.{Site}
use Rattle.samples.specs.Shapes.{has}
use Rattle.layout.specs.Meaning.{Meaning, width, NoBitShared}

pub apart : (o : Option Site) (s : Site) → o ≡ Some s → o ≡ None → ⊥
apart o s p q = let z : ◌≡◌ {A = ℕ} 0 1 = cc in omega arith

pub same_some : (o : Option Site) (a b : Site) → o ≡ Some a → o ≡ Some b → a ≡ b
same_some o a b p q = cc

pub no_bit_shared : NoBitShared
no_bit_shared m laws s t j k hs ht hj hk e =
    same_some (m.owner (m.start s + j)) s t (laws.owned s hs j hj) (ap m.owner e ∙ laws.owned t ht k hk)

-- where owners lie in runs, and runs in the image, nobody owns a bit past the image
pub unowned : (m : Meaning) → ((s : Site) → has m.shape s ≡ true → m.start s + width m ≤ 8 * m.size) → ((b : ℕ) (s : Site) → m.owner b ≡ Some s → (has m.shape s ≡ true) × (m.start s ≤ b) × (b < m.start s + width m)) → (b : ℕ) → 8 * m.size ≤ b → m.owner b ≡ None
unowned m within held b past = at (m.owner b) (held b)
  where
    at : (o : Option Site) → ((s : Site) → o ≡ Some s → (has m.shape s ≡ true) × (m.start s ≤ b) × (b < m.start s + width m)) → o ≡ None
    at None h = cc
    at (Some s) h = let q = h s (cc) in absurd (omega (arith, within s q.0, q.2))
