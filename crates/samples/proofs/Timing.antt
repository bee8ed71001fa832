-- The time lines are the picture lines in another order.
use Rattle.std.proofs.Common.{refl, arith}
use Rattle.std.proofs.lemmas.Bool.Decides.{nat_tests}
use Rattle.samples.specs.declared.shape.TimeKind.TheVariants.{Progressive, TopFirst, BottomFirst}
use Rattle.samples.specs.Times.{TimesAreLines}

pub times_are_lines : TimesAreLines
times_are_lines Progressive h = record {
  there = λ s l. l;
  back = λ t l. l;
  left = λ s l. refl;
  right = λ t l. refl;
}
times_are_lines TopFirst h = record {
  there = λ s l. grind (arith, nat_tests);
  back = λ t l. grind (arith, nat_tests);
  left = λ s l. grind (arith, nat_tests);
  right = λ t l. grind (arith, nat_tests);
}
times_are_lines BottomFirst h = record {
  there = λ s l. grind (arith, nat_tests);
  back = λ t l. grind (arith, nat_tests);
  left = λ s l. grind (arith, nat_tests);
  right = λ t l. grind (arith, nat_tests);
}
