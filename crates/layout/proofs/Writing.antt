-- Codes written to an image, from a layout's laws.
use Rattle.std.proofs.Common.{◌≡◌, ℕ, ◌+◌, ◌-◌, ◌*◌, ◌<◌, ◌≤◌, Bool, true, false, cond, ltb, leb, List, length, Some, None, Ok, Err, Option, Result, sym, refl, ap, ◌∙◌, subst, ⊎_elim, arith}
use Rattle.std.proofs.lemmas.List.FromFn.{length-map-range_with_len}
use Rattle.std.proofs.lemmas.Bool.{cases_Bool, both_ways, and_parts, ltb-true, leb-true, cond-true, cond-false}
use Rattle.image.specs.Bits.{bit_of, number, bit, image_of, written}
use Rattle.image.proofs.Images.{Bytes, image_is, in_run, run_in, image_of_ext, bit_image_of}
use Rattle.samples.specs.declared.fault.Fault.{Fault}
use Rattle.samples.specs.declared.site.Site.{Site}
use Rattle.samples.specs.declared.fault.Rule.TheVariants.{NoSite}
use Rattle.samples.specs.Faults.{refusal}
use Rattle.samples.specs.Shapes.{has}
use Rattle.layout.specs.Meaning.{Meaning, Lawful, width, located}
use Rattle.layout.specs.Images.{bit_new, bit_written, rewritten, same_site, only}
use Rattle.layout.proofs.Sites.{same_site_true, same_site_refl}
use Rattle.layout.proofs.Following.{apart, same_some}

-- what a later write leaves of an earlier one
abbrev pub later : Option ℕ → Option ℕ → Option ℕ
later (Some v) old = Some v
later None old = old

pub rewritten_length : (m : Meaning) (f : Site → Option ℕ) (image : List ℕ) → length (rewritten m f image) ≡ length image
rewritten_length m f image =
    length-map-range_with_len (λ i. number 8 (λ k. bit_written m f image (8 * i + k) (m.owner (8 * i + k)))) 0 (length image)

module _ (m : Meaning) (laws : Lawful m) where
  -- ---- writes of any codes
  module _ (image : List ℕ) where
    -- only the codes of the shape's sites count
    pub rewritten_ext : (f g : Site → Option ℕ) → ((s : Site) → has m.shape s ≡ true → f s ≡ g s) → rewritten m f image ≡ rewritten m g image
    rewritten_ext f g e =
        image_of_ext (length image) (λ b. bit_written m f image b (m.owner b)) (λ b. bit_written m g image b (m.owner b)) (λ b _. at b (m.owner b) refl)
      where
        at : (b : ℕ) (o : Option Site) → m.owner b ≡ o → bit_written m f image b o ≡ bit_written m g image b o
        at b None p = refl
        at b (Some s) p = ap (bit_new m image b s) (e s (laws.held b s p).0)

    pub rewritten_none : Bytes image → rewritten m (λ _. None) image ≡ image
    rewritten_none small =
        image_of_ext (length image) (λ b. bit_written m (λ _. None) image b (m.owner b)) (bit image) (λ b _. at b (m.owner b)) ∙ sym (image_is image small)
      where
        at : (b : ℕ) (o : Option Site) → bit_written m (λ _. None) image b o ≡ bit image b
        at b None = refl
        at b (Some s) = refl

    pub rewritten_twice : (f g : Site → Option ℕ) → rewritten m g (rewritten m f image) ≡ rewritten m (λ s. later (g s) (f s)) image
    rewritten_twice f g =
        let once : List ℕ = rewritten m f image in
        ap (λ z. image_of z (λ b. bit_written m g once b (m.owner b))) (rewritten_length m f image)
        ∙ image_of_ext (length image) (λ b. bit_written m g once b (m.owner b)) (λ b. bit_written m (λ s. later (g s) (f s)) image b (m.owner b))
        (λ b l. at b (m.owner b) (bit_image_of (length image) (λ z. bit_written m f image z (m.owner z)) b l))
      where
        chosen : (b : ℕ) (s : Site) (o : Option ℕ) → bit (rewritten m f image) b ≡ bit_new m image b s (f s) → bit_new m (rewritten m f image) b s o ≡ bit_new m image b s (later o (f s))
        chosen b s (Some v) p = refl
        chosen b s None p = p

        at : (b : ℕ) (o : Option Site) → bit (rewritten m f image) b ≡ bit_written m f image b o → bit_written m g (rewritten m f image) b o ≡ bit_written m (λ s. later (g s) (f s)) image b o
        at b None p = p
        at b (Some s) p = chosen b s (g s) p

  -- ---- one code
  module _ (s : Site) (there : has m.shape s ≡ true) where
    in_run_owner : (b : ℕ) → in_run (m.start s) (width m) b ≡ true → m.owner b ≡ Some s
    in_run_owner b t =
        let p = and_parts (leb (m.start s) b) (ltb b (m.start s + width m)) t in
        let low = leb-true (m.start s) b p.0 in
        let high = ltb-true b (m.start s + width m) p.1 in
        ap m.owner (omega arith) ∙ laws.owned s there (b - m.start s) (omega arith)

    bit_only : (image : List ℕ) (v b : ℕ) (o : Option Site) → m.owner b ≡ o → cond (in_run (m.start s) (width m) b) (bit_of v (b - m.start s)) (bit image b) ≡ bit_written m (only s v) image b o
    bit_only image v b None e =
        let r : Bool = in_run (m.start s) (width m) b in
        ⊎_elim
        (λ (t : r ≡ true). absurd (apart (m.owner b) s (in_run_owner b t) e))
        (λ (t : r ≡ false). cond-false r (bit_of v (b - m.start s)) (bit image b) t)
        (cases_Bool r)
    bit_only image v b (Some z) e =
        let r : Bool = in_run (m.start s) (width m) b in
        ⊎_elim
        (λ (t : same_site s z ≡ true).
        let q : s ≡ z = same_site_true s z t in
        let held = laws.held b z e in
        let inside : r ≡ true = run_in (m.start s) (width m) b (subst (λ y. m.start y ≤ b) (sym q) held.1) (subst (λ y. b < m.start y + width m) (sym q) held.2) in
        cond-true r (bit_of v (b - m.start s)) (bit image b) inside
        ∙ ap (λ y. bit_of v (b - m.start y)) q
        ∙ ap (bit_new m image b z) (sym (cond-true (same_site s z) (Some v) None t)))
        (λ (t : same_site s z ≡ false).
        let outside : r ≡ false =
        ⊎_elim
        (λ (i : r ≡ true). absurd (both_ways (same_site s z) t (subst (λ y. same_site s y ≡ true) (same_some (m.owner b) s z (in_run_owner b i) e) (same_site_refl s))))
        (λ (i : r ≡ false). i)
        (cases_Bool r) in
        cond-false r (bit_of v (b - m.start s)) (bit image b) outside
        ∙ ap (bit_new m image b z) (sym (cond-false (same_site s z) (Some v) None t)))
        (cases_Bool (same_site s z))

    -- the run of a site written is the image with a new code at that site
    pub written_only : (image : List ℕ) (v : ℕ) → written (width m) (m.start s) v image ≡ rewritten m (only s v) image
    written_only image v =
        image_of_ext (length image) (λ b. cond (in_run (m.start s) (width m) b) (bit_of v (b - m.start s)) (bit image b)) (λ b. bit_written m (only s v) image b (m.owner b))
        (λ b _. bit_only image v b (m.owner b) refl)

-- the place that locate answers of a site that is there
pub located_there : (m : Meaning) (s : Site) → has m.shape s ≡ true → located m s ≡ Ok (m.start s)
located_there m s there = cond-true (has m.shape s) (Ok (m.start s)) (Err (refusal NoSite 0)) there

ok_is : (r : Result ℕ Fault) (a b : ℕ) → r ≡ Ok a → r ≡ Ok b → a ≡ b
ok_is r a b p q = cc

pub located_start : (m : Meaning) (s : Site) (b : ℕ) → has m.shape s ≡ true → located m s ≡ Ok b → b ≡ m.start s
located_start m s b there e = ok_is (located m s) b (m.start s) e (located_there m s there)

-- ---- one write after another
module _ (m : Meaning) (laws : Lawful m) (image : List ℕ) where
  -- writes that begin with none
  pub begins : Bytes image → (f : Site → Option ℕ) → ((s : Site) → f s ≡ None) → image ≡ rewritten m f image
  begins small f none = sym (rewritten_ext m laws image f (λ _. None) (λ s _. none s) ∙ rewritten_none m laws image small)

  -- a write g after the writes f makes the writes h
  pub goes_on : (now' after : List ℕ) (f g h : Site → Option ℕ) → ((s : Site) → has m.shape s ≡ true → later (g s) (f s) ≡ h s) → now' ≡ rewritten m f image → after ≡ rewritten m g now' → after ≡ rewritten m h image
  goes_on now' after f g h e inv next =
      next ∙ ap (rewritten m g) inv ∙ rewritten_twice m laws image f g ∙ rewritten_ext m laws image (λ s. later (g s) (f s)) h e
