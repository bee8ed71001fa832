-- A line order over a lawful layout is lawful.
use Rattle.std.specs.Prelude.{◌≡◌, ℕ, ◌+◌, ◌<◌, ◌≤◌, true, Some, None, Option, refl}
use Rattle.std.specs.Option.{option_map}
use Rattle.std.proofs.Common.{sym, ap, subst, ◌∙◌, arith}
use Rattle.std.proofs.lemmas.Bool.Decides.{nat_tests}
use Rattle.samples.specs.declared.component.Component.{Component}
use Rattle.samples.specs.declared.shape.Shape.{Shape}
use Rattle.samples.specs.declared.shape.TimeKind.{TimeKind}
use Rattle.samples.specs.declared.site.Site.{Site}
use Rattle.samples.specs.Lines.{first_of, site_of}
use Rattle.samples.specs.Shapes.{columns, has, retimed}
use Rattle.samples.specs.Times.{Bijection}
use Rattle.layout.specs.Meaning.{Meaning, Lawful, width}
use Rattle.layout.proofs.Sites.{has_parts, has_from}
use Rattle.order.specs.declared.order.Order.{Order}
use Rattle.order.specs.Orders.{stored}
use Rattle.order.specs.Over.{over, shown, moved}

-- ---- sites at other lines of the shape
module _ (t : Shape) (f : ℕ → ℕ) (up : (l : ℕ) → l < t.size.height → f l < t.size.height) where
  pub has_moved : (s : Site) → has t s ≡ true → has t (moved f s) ≡ true
  has_moved s h = let p = has_parts t s h in has_from t (moved f s) p.0 (up s.line.0 p.1)

-- moved there and back
pub moved_back : (t : Shape) (f g : ℕ → ℕ) → ((l : ℕ) → l < t.size.height → g (f l) ≡ l) → (s : Site) → has t s ≡ true → moved g (moved f s) ≡ s
moved_back t f g back s h = ap (λ n. site_of s.component s.column n) (back s.line.0 (has_parts t s h).1)

-- the owner below, of a bit that has an owner
owner_below : (f : ℕ → ℕ) (o : Option Site) (s : Site) → option_map (moved f) o ≡ Some s → (z : Site) × (o ≡ Some z) × (moved f z ≡ s)
owner_below f (Some z) s e = (z, refl, cc)
owner_below f None s e = absurd cc

-- the lines here and below are the same lines in another order
pub lines : (o : Order) (h : ℕ) → Bijection h (shown o h) (stored o h)
lines o h = record {
  there = λ n l. grind (arith, nat_tests);
  back = λ s l. grind (arith, nat_tests);
  left = λ n l. grind (arith, nat_tests);
  right = λ s l. grind (arith, nat_tests);
}

-- a shape has the same sites in any order of time
pub columns_retimed : (k : TimeKind) (t : Shape) (c : Component) → columns (retimed k t) c ≡ columns t c
columns_retimed k t c = refl

pub first_retimed : (k : TimeKind) (t : Shape) (c : Component) → first_of (retimed k t) c ≡ first_of t c
first_retimed k t c = refl

pub has_retimed : (k : TimeKind) (t : Shape) (s : Site) → has (retimed k t) s ≡ has t s
has_retimed k t s = refl

module _ (o : Order) (m : Meaning) (laws : Lawful m) where
  stored_there : (s : Site) → has m.shape s ≡ true → has m.shape (moved (stored o m.shape.size.height) s) ≡ true
  stored_there s h = has_moved m.shape (stored o m.shape.size.height) (lines o m.shape.size.height).back s h

  -- the owner of a bit has its run there
  held_there : (b : ℕ) (s : Site) → option_map (moved (shown o m.shape.size.height)) (m.owner b) ≡ Some s → (has m.shape s ≡ true) × (m.start (moved (stored o m.shape.size.height) s) ≤ b) × (b < m.start (moved (stored o m.shape.size.height) s) + width m)
  held_there b s e =
      let f : ℕ → ℕ = stored o m.shape.size.height in
      let g : ℕ → ℕ = shown o m.shape.size.height in
      let q = owner_below g (m.owner b) s e in
      let z : Site = q.0 in
      let held = laws.held b z q.1 in
      let there : has m.shape s ≡ true = subst (λ y. has m.shape y ≡ true) q.2 (has_moved m.shape g (lines o m.shape.size.height).there z held.0) in
      let back : moved f s ≡ z = ap (moved f) (sym q.2) ∙ moved_back m.shape g f (lines o m.shape.size.height).left z held.0 in
      (there, subst (λ y. m.start y ≤ b) (sym back) held.1, subst (λ y. b < m.start y + width m) (sym back) held.2)

  pub over_lawful : Lawful (over o m)
  over_lawful =
      let f : ℕ → ℕ = stored o m.shape.size.height in
      let g : ℕ → ℕ = shown o m.shape.size.height in
      record {
        small = laws.small;
        within = λ s h. laws.within (moved f s) (stored_there s h);
        owned = λ s h k l. ap (option_map (moved g)) (laws.owned (moved f s) (stored_there s h) k l) ∙ ap Some (moved_back m.shape f g (lines o m.shape.size.height).right s h);
        held = held_there;
        unfixed = λ b s e. let q = owner_below g (m.owner b) s e in laws.unfixed b q.0 q.1;
        outside = λ b past. (ap (option_map (moved g)) (laws.outside b past).0, (laws.outside b past).1);
      }
