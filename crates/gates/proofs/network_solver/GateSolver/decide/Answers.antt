use Rattle.std.proofs.Common.{true, sym, refl, ap, ◌∙◌, subst}
use Rattle.settings.specs.Readings.{reading}
use Rattle.rules.specs.Rules.{Choice}
use Rattle.gates.specs.Gates.{gate_contacts, gate_good}
use Rattle.gates.proofs.Looks.{stands_met, fails_none}
use Rattle.gates.proofs.network_solver.GateSolver.decide.Goals as goal

pub returns-then-stands : goal.returns-then-stands
returns-then-stands c =
    let s = c.args.self.now in
    record { says = stands_met s c.args.assignment (ap (λ x. gate_good s (reading (gate_contacts s) x)) (sym c.into.ensures) ∙ sym c.if-stands.ensures.standing) }

pub returns-in-None : goal.returns-in-None
returns-in-None c =
    let s = c.args.self.now in
    record { says = fails_none s c.args.assignment (ap (λ x. gate_good s (reading (gate_contacts s) x)) (sym c.into.ensures) ∙ sym c.if-stands.ensures.standing) (subst (Choice (gate_contacts s) c.args.assignment true) c.in-None.is c.requires.choice refl) }
