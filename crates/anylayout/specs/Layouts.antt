-- A layout that is known only as the program runs means what the layout inside means.
use Rattle.layout.specs.Meaning.{Meaning}
use Rattle.order.specs.Over.{over}
use Rattle.planes.specs.Words.{plane_words}
use Rattle.anylayout.specs.declared.layouts.AnyLayout.{AnyLayout}
use Rattle.anylayout.specs.declared.layouts.AnyLayout.TheVariants.{Packing, Planes, OrderedPacking, OrderedPlanes}
use Rattle.anypacking.specs.Packings.{packing_meaning}

abbrev pub layout_meaning : AnyLayout → Meaning
layout_meaning (Packing p) = packing_meaning p
layout_meaning (Planes p) = plane_words p.shape
layout_meaning (OrderedPacking x) = over x.order (packing_meaning x.below)
layout_meaning (OrderedPlanes x) = over x.order (plane_words x.below.shape)
