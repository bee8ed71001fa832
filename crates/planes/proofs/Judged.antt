-- What reading and writing a component comes to where the line passed the tests.
use Rattle.std.proofs.Common.{◌≡◌, ℕ, ◌<◌, List, length, sym}
use Rattle.samples.specs.declared.component.Component.{Component}
use Rattle.samples.specs.Lines.{line_count}
use Rattle.layout.specs.Meaning.{Meaning}
use Rattle.layout.specs.Images.{rewritten, part_laid}
use Rattle.layout.specs.Tests.{part_read, part_written}
use Rattle.layout.proofs.Reading.{part_in}
use Rattle.layout.proofs.Testing.{line_passed}

module _ (m : Meaning) (image : List ℕ) (line : ℕ) (c : Component) (codes : List ℕ) (long : length image ≡ m.size) (low : line < m.shape.size.height) (count : length codes ≡ line_count m.shape) where
  pub read_judged : part_in m image line c codes ≡ part_read m image line c codes
  read_judged =
      sym (line_passed m image (λ _. codes) (part_in m image line c codes) line (length codes) long low count)

  pub written_judged : rewritten m (part_laid m.shape line c codes) image ≡ part_written m image line c codes
  written_judged =
      sym (line_passed m image (λ _. image) (rewritten m (part_laid m.shape line c codes) image) line (length codes) long low count)
