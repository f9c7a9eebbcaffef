use Rattle.std.proofs.Common.{◌≡◌, Bool, true, List, length, Ok, Err, Result}
use Rattle.search.specs.declared.Assignment.{Assignment}
use Rattle.search.specs.Assignments.{agreeing}
use Rattle.networks.specs.declared.lent_gates.Circuit.{Circuit}
use Rattle.networks.specs.Circuits.{circuit_allows, computed}
use Rattle.networks.proofs.Circuits.{computed_obeys}
use Rattle.implications.specs.declared.Contradiction.{Contradiction}
use Rattle.implications.specs.declared.known.Implied.{Implied}
use Rattle.implications.specs.Implied.{Implies}
use Rattle.implications.proofs.Implying.{start_right}
use Rattle.implications.proofs.imply.Goals as goal

-- where no setting is left, any answer is right
none_left : (k : Circuit) (a : Assignment) (r : Result Implied Contradiction) → ((x : List Bool) → length x ≡ k.inputs → circuit_allows k x ≡ true → agreeing a x ≡ true → ⊥) → Implies k a r
none_left k a (Err e) h = h
none_left k a (Ok known) h = λ x long ok fit. absurd (h x long ok fit)

pub returns-in_err-demand : goal.returns-in_err-demand
returns-in_err-demand c =
    let k = c.args.circuit in
    let first = c.at_first-known.result in
    let found : Result (Unit {0}) Contradiction = Err c.in_err-demand.field-0.0 in
    record {
      implied = none_left k c.args.assignment c.from_residual.result
          (λ x long ok fit. start_right k c.args.assignment x long ok fit first.values c.demand.new.self.values found c.readable.result c.readable.ensures.literal first.whole c.in_err-demand.ensures.demanded c.at_first-known.ensures.right);
    }

pub returns-in_err-propagate : goal.returns-in_err-propagate
returns-in_err-propagate c =
    let k = c.args.circuit in
    let first = c.at_first-known.result in
    record {
      implied = none_left k c.args.assignment c.from_residual-in_err-propagate.result
          (λ x long ok fit.
          c.in_err-propagate.ensures.right (computed k.gates.now x) (computed_obeys k.gates.now x k.inputs long)
          (start_right k c.args.assignment x long ok fit first.values c.demand.new.self.values (Ok c.in_ok-demand.field-0) c.readable.result c.readable.ensures.literal first.whole c.in_ok-demand.ensures.demanded c.at_first-known.ensures.right));
    }

pub returns : goal.returns
returns c = record {
  implied = λ x long ok fit.
      let k = c.args.circuit in
      let V = computed k.gates.now x in
      let first = c.at_first-known.result in
      c.in_ok-propagate.ensures.right V (computed_obeys k.gates.now x k.inputs long)
      (start_right k c.args.assignment x long ok fit first.values c.demand.new.self.values (Ok c.in_ok-demand.field-0) c.readable.result c.readable.ensures.literal first.whole c.in_ok-demand.ensures.demanded c.at_first-known.ensures.right);
}
