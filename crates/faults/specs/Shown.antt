-- How refusals print.
use Rattle.std.specs.Prelude.{ℕ, List, ◌++◌, codes, decimal}
use Rattle.faults.specs.declared.Layer.{Layer}
use Rattle.faults.specs.declared.Layer.TheVariants.{Text, Store, Solver, Sheet}
use Rattle.faults.specs.declared.Refusal.{Refusal}
use Rattle.faults.specs.declared.Brief.{Brief}

abbrev pub layer_name : Layer → List ℕ
layer_name Text = codes "text"
layer_name Store = codes "store"
layer_name Solver = codes "solver"
layer_name Sheet = codes "sheet"

-- `refused`, the number and the place
abbrev pub brief_text : Brief → List ℕ
brief_text b = codes "refused " ++ (decimal b.refusal.number ++ (codes " " ++ decimal b.refusal.place))

-- the same, with the layer behind it
abbrev pub refusal_text : Refusal → List ℕ
refusal_text r = brief_text (record { refusal = r }) ++ (codes " " ++ layer_name r.layer)
