-- How values are written.
use Rattle.std.specs.Prelude.{ℕ, List, ◌++◌, codes}
use Rattle.std.specs.Fmt.{decimal}
use Rattle.samples.specs.declared.bounds.Bits.{Bits}
use Rattle.samples.specs.declared.bounds.Size.{Size}
use Rattle.samples.specs.declared.component.Component.{Component}
use Rattle.samples.specs.declared.component.Component.TheVariants.{Luma, Cb, Cr, Alpha}
use Rattle.samples.specs.declared.fault.Fault.{Fault}
use Rattle.samples.specs.declared.shape.Chroma.{Chroma}
use Rattle.samples.specs.declared.shape.Chroma.TheVariants.{Half, Full}
use Rattle.samples.specs.declared.shape.TimeKind.{TimeKind}
use Rattle.samples.specs.declared.shape.TimeKind.TheVariants.{Progressive, TopFirst, BottomFirst}
use Rattle.samples.specs.declared.site.Site.{Site}

abbrev pub size_text : Size → List ℕ
size_text z = decimal z.width ++ codes " by " ++ decimal z.height

abbrev pub bits_text : Bits → List ℕ
bits_text n = decimal n.count ++ codes " bits"

abbrev pub component_text : Component → List ℕ
component_text Luma = codes "Y'"
component_text Cb = codes "Cb"
component_text Cr = codes "Cr"
component_text Alpha = codes "A"

abbrev pub chroma_text : Chroma → List ℕ
chroma_text Half = codes "half chroma"
chroma_text Full = codes "full chroma"

abbrev pub time_text : TimeKind → List ℕ
time_text Progressive = codes "progressive"
time_text TopFirst = codes "top field first"
time_text BottomFirst = codes "bottom field first"

abbrev pub site_text : Site → List ℕ
site_text s = component_text s.component ++ codes " column " ++ decimal s.column ++ codes " line " ++ decimal s.line.0

abbrev pub fault_text : Fault → List ℕ
fault_text f = codes "refused by " ++ decimal f.number ++ codes ", layer " ++ decimal f.layer ++ codes ", place " ++ decimal f.place
