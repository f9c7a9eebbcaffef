-- What a line holds, its literals as a list.
use Rattle.std.specs.Prelude.{ℕ, List, ℤ, vec_items}
use Rattle.model.specs.declared.Side.{Side}
use Rattle.scripts.specs.declared.Action.{Action}
use Rattle.scripts.specs.declared.Action.TheVariants.{Rule, Assume, Release, Least, Why, Write}
use Rattle.scripts.specs.declared.Line.{Line}
use Rattle.scripts.specs.declared.Line.TheVariants.{Nothing, Bad, Call, Terms}

pub data ActionForm : Type 0 where
  rule : List ℤ → ActionForm
  assume : ℤ → ActionForm
  release : ℕ → ℕ → ActionForm
  least : ℕ → ActionForm
  why : ℕ → ActionForm
  write : ℕ → ActionForm

pub data Form : Type 0 where
  nothing : Form
  bad : Form
  call : Side → ActionForm → Form
  terms : ℕ → Form

abbrev pub action_form : Action → ActionForm
action_form (Rule v) = rule (vec_items v)
action_form (Assume l) = assume l
action_form (Release label number) = release label number
action_form (Least n) = least n
action_form (Why n) = why n
action_form (Write n) = write n

abbrev pub form : Line → Form
form Nothing = nothing
form Bad = bad
form (Call side a) = call side (action_form a)
form (Terms n) = terms n
