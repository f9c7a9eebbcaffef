-- The whole guarantee of a run, and of a run that goes on.
use Rattle.std.proofs.Common.{◌≡◌, Bool, List, ◌++◌, sym, ◌∙◌, subst}
use Rattle.model.specs.declared.Side.{Side}
use Rattle.model.specs.declared.Side.TheVariants.{Make, Break}
use Rattle.model.specs.Model.{SheetModel, PairModel, on}
use Rattle.model.specs.Guarantee.{Event, calls_of, after, NewSheet, NewPair, AlikePairs, AlikeSheets, Run, ByTheModel, Guaranteed, GuaranteeLaw}
use Rattle.model.proofs.Runs.{joined_by, run_by}
use Rattle.model.proofs.Told.{run_from}
use Rattle.model.proofs.Renewed.{with_new, renewed, Agree, same_events}

-- of two alike sheets that are new, the second is the first with the second's test of what is allowed
new_alike : (s t : SheetModel) → NewSheet s → NewSheet t → AlikeSheets s t → t ≡ with_new s t.new
new_alike s t m n a = λ i. record {
  contacts = sym a.contacts i;
  label = sym a.label i;
  new = t.new;
  rules = (n.no_rules ∙ sym m.no_rules) i;
  held = (n.none_held ∙ sym m.none_held) i;
  count = (n.none_issued ∙ sym m.none_issued) i;
}

pub guarantee_law : GuaranteeLaw
guarantee_law start h new by = record { run = run_from start h new by; second_pair = second } where
  second : (start' : PairModel) (h' : List Event) → NewPair start' → AlikePairs start start' → Run start' h' → calls_of h' ≡ calls_of h → h' ≡ h
  second start' h' new' alike run' calls = same_events start tests agree h h' by (subst (λ p. ByTheModel p h') other (run_by start' h' run')) calls where
    tests : Side → List Bool → Bool
    tests side = (on start' side).new

    agree : Agree start tests
    agree Make = alike.make.new
    agree Break = alike.brk.new

    other : start' ≡ renewed start tests
    other =
        let first = new_alike start.make start'.make new.make new'.make alike.make in
        let last = new_alike start.brk start'.brk new.brk new'.brk alike.brk in
        λ i. record { make = first i; brk = last i }

-- what comes behind a run under the guarantee, each answer the model's, keeps it
pub onward : (start : PairModel) (past more : List Event) → NewPair start → Guaranteed start past → ByTheModel (after start (calls_of past)) more → Guaranteed start (past ++ more)
onward start past more new stands by = guarantee_law start (past ++ more) new (joined_by start past more (run_by start past stands.run) by)
