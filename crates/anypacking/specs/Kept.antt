-- A packing of any type keeps the laws.
use Rattle.layout.specs.Meaning.{Lawful}
use Rattle.formats.specs.Formats.{p_2vuy, p_v308, p_v408, p_v216, p_v410, p_v210}
use Rattle.formats.specs.Six.{proper_2vuy, proper_v308, proper_v408, proper_v216, proper_v410, proper_v210}
use Rattle.packing.specs.Groups.{lawful}
use Rattle.anypacking.specs.declared.packings.AnyPacking.{AnyPacking}
use Rattle.anypacking.specs.declared.packings.AnyPacking.TheVariants.{TwoVuy, V308, V408, V216, V410, V210}
use Rattle.anypacking.specs.Packings.{packing_meaning}

pub packing_lawful : (x : AnyPacking) → Lawful (packing_meaning x)
packing_lawful (TwoVuy p) = lawful p_2vuy proper_2vuy p.size
packing_lawful (V308 p) = lawful p_v308 proper_v308 p.size
packing_lawful (V408 p) = lawful p_v408 proper_v408 p.size
packing_lawful (V216 p) = lawful (p_v216 p.format.bits) (proper_v216 p.format.bits p.format.allowed) p.size
packing_lawful (V410 p) = lawful p_v410 proper_v410 p.size
packing_lawful (V210 p) = lawful p_v210 proper_v210 p.size
