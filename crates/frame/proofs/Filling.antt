-- An image that was written into.
use Rattle.std.proofs.Common.{◌≡◌, ℕ, List, length, Option, sym, subst}
use Rattle.image.proofs.Images.{Bytes, bytes_image}
use Rattle.samples.specs.declared.site.Site.{Site}
use Rattle.layout.specs.Images.{rewritten, bit_written}
use Rattle.layout.specs.Meaning.{Meaning}

pub bytes_rewritten : (m : Meaning) (new : Site → Option ℕ) (image after : List ℕ) → after ≡ rewritten m new image → Bytes after
bytes_rewritten m new image after e = subst Bytes (sym e) (bytes_image (length image) (λ b. bit_written m new image b (m.owner b)))
