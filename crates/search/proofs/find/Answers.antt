use Rattle.std.proofs.Common.{◌≡◌, ◌<◌, ◌≤◌, length, get_or, sym, ap, ◌∙◌, subst, arith, length-set}
use Rattle.search.specs.Assignments.{clashing, put}
use Rattle.search.specs.Search.{depth, Says}
use Rattle.search.proofs.Assignments.{with_put}
use Rattle.search.proofs.Machine.{Underway, weight, nothing, clash_answer, starts, met, met_by, narrows, narrows_less, forced_narrows, has_room, splits, splits_less, goes_back, goes_back_less, no_more}
use Rattle.search.proofs.find.Given as given
use Rattle.search.proofs.find.Goals as goal

pub returns-then-clashes : goal.returns-then-clashes
returns-then-clashes g c =
    let v = g.L.Look in
    let s = c.args.look.now in
    let few : v.size s ≤ 64 = v.few s in
    let h = c.if-clashes.ensures in
    record { answer = clash_answer (v.size s) (v.good s) c.args.start few (ap (λ n. clashing n c.args.start) (sym c.variables.ensures.count) ∙ sym h.clashing) }

pub machine-init : goal.machine-init
machine-init g c =
    let v = g.L.Look in
    let s = c.args.look.now in
    let few : v.size s ≤ 64 = v.few s in
    (starts (v.size s) (v.good s) c.args.start _ few (ap (λ n. clashing n c.args.start) (sym c.variables.ensures.count) ∙ sym c.if-clashes.ensures.clashing), c.filled_with-pending.ensures.length)

pub returns-in_default-Met : goal.returns-in_default-Met
returns-in_default-Met g c =
    let v = g.L.Look in
    let s = c.args.look.now in
    let m = c.machine in
    record { answer = met (v.size s) (v.good s) c.args.start m.current m.pending (depth m.state) m.invariant.0 (subst (Says (v.size s) (v.good s) m.current) c.in_default-Met.is-1 c.look-found.ensures.says) }

pub returns-in_default-MetBy : goal.returns-in_default-MetBy
returns-in_default-MetBy g c =
    let v = g.L.Look in
    let s = c.args.look.now in
    let m = c.machine in
    record { answer = met_by (v.size s) (v.good s) c.args.start m.current m.pending (depth m.state) m.invariant.0 c.in_default-MetBy.good (subst (Says (v.size s) (v.good s) m.current) c.in_default-MetBy.is-1 c.look-found.ensures.says) }

pub machine-smaller-in_default-Narrowed : goal.machine-smaller-in_default-Narrowed
machine-smaller-in_default-Narrowed g c =
    let v = g.L.Look in
    let s = c.args.look.now in
    let m = c.machine in
    narrows_less (v.size s) (v.good s) c.args.start m.current m.pending (depth m.state) m.invariant.0 _ (subst (Says (v.size s) (v.good s) m.current) c.in_default-Narrowed.is-1 c.look-found.ensures.says)

-- the assignment after a forced value
forced_is : (g : given.Over) (c : goal.After-with-current g) → c.with-current.result ≡ put c.machine.current c.in_default-Forced.variable c.in_default-Forced.closed
forced_is g c =
    let v = g.L.Look in
    let s = c.args.look.now in
    let m = c.machine in
    let few : v.size s ≤ 64 = v.few s in
    c.with-current.ensures.decided ∙ with_put c.machine.current c.in_default-Forced.variable c.in_default-Forced.closed (omega (arith, (subst (Says (v.size s) (v.good s) m.current) c.in_default-Forced.is-1 c.look-found.ensures.says).0))

pub machine-smaller-in_default-Forced : goal.machine-smaller-in_default-Forced
machine-smaller-in_default-Forced g c =
    let v = g.L.Look in
    let s = c.args.look.now in
    let m = c.machine in
    let says = subst (Says (v.size s) (v.good s) m.current) c.in_default-Forced.is-1 c.look-found.ensures.says in
    subst (λ x. weight (v.size s) x m.pending (depth m.state) < weight (v.size s) m.current m.pending (depth m.state)) (sym (forced_is g c))
    (narrows_less (v.size s) (v.good s) c.args.start m.current m.pending (depth m.state) m.invariant.0 _ (forced_narrows (v.size s) (v.good s) m.current _ _ says))

pub machine-preserved-in_default-Forced : goal.machine-preserved-in_default-Forced
machine-preserved-in_default-Forced g c =
    let v = g.L.Look in
    let s = c.args.look.now in
    let m = c.machine in
    let says = (subst (Says (v.size s) (v.good s) m.current) c.in_default-Forced.is-1 c.look-found.ensures.says) in (
      subst (λ x. Underway (v.size s) (v.good s) c.args.start x m.pending (depth m.state)) (sym (forced_is g c))
          (narrows (v.size s) (v.good s) c.args.start m.current m.pending (depth m.state) m.invariant.0 _ (forced_narrows (v.size s) (v.good s) m.current _ _ says)),
      m.invariant.1,
    )

pub returns-in-Free-Conflict : goal.returns-in-Free-Conflict
returns-in-Free-Conflict g c =
    let v = g.L.Look in
    let s = c.args.look.now in
    let m = c.machine in
    record {
      answer = no_more (v.size s) (v.good s) c.args.start m.current m.pending
          (subst (Underway (v.size s) (v.good s) c.args.start m.current m.pending) (ap depth c.in-Free-Conflict.is-0) m.invariant.0) (subst (Says (v.size s) (v.good s) m.current) c.in-Free-Conflict.is-1 c.look-found.ensures.says);
    }

pub machine-smaller-in-Tried-Conflict : goal.machine-smaller-in-Tried-Conflict
machine-smaller-in-Tried-Conflict g c =
    let v = g.L.Look in
    let s = c.args.look.now in
    let m = c.machine in
    let k = c.in-Tried-Conflict.last in
    subst (λ d. weight (v.size s) (get_or m.pending k nothing) m.pending d < weight (v.size s) m.current m.pending (depth m.state)) (sym c.with_pending-state.ensures.count)
    (subst (λ d. weight (v.size s) (get_or m.pending k nothing) m.pending k < weight (v.size s) m.current m.pending d) (sym (ap depth c.in-Tried-Conflict.is-0))
    (goes_back_less (v.size s) (v.good s) c.args.start m.current m.pending k))

pub machine-preserved-in-Tried-Conflict : goal.machine-preserved-in-Tried-Conflict
machine-preserved-in-Tried-Conflict g c =
    let v = g.L.Look in
    let s = c.args.look.now in
    let m = c.machine in
    let k = c.in-Tried-Conflict.last in (
      subst (Underway (v.size s) (v.good s) c.args.start (get_or m.pending k nothing) m.pending) (sym c.with_pending-state.ensures.count)
          (goes_back (v.size s) (v.good s) c.args.start m.current m.pending k
          (subst (Underway (v.size s) (v.good s) c.args.start m.current m.pending) (ap depth c.in-Tried-Conflict.is-0) m.invariant.0) (subst (Says (v.size s) (v.good s) m.current) c.in-Tried-Conflict.is-1 c.look-found.ensures.says)),
      m.invariant.1,
    )

pub bounds-pending-count : goal.bounds-pending-count
bounds-pending-count g c =
    let v = g.L.Look in
    let s = c.args.look.now in
    let m = c.machine in
    let few : v.size s ≤ 64 = v.few s in
    omega (arith, c.pending-count.ensures.count, has_room (v.size s) (v.good s) c.args.start m.current m.pending (depth m.state) m.invariant.0 _ (subst (Says (v.size s) (v.good s) m.current) c.in_default-Split.is-1 c.look-found.ensures.says) few)

pub machine-smaller : goal.machine-smaller
machine-smaller g c =
    let v = g.L.Look in
    let s = c.args.look.now in
    let m = c.machine in
    let few : v.size s ≤ 64 = v.few s in
    let says = subst (Says (v.size s) (v.good s) m.current) c.in_default-Split.is-1 c.look-found.ensures.says in
    let room : depth m.state < length m.pending = omega (arith, m.invariant.1, has_room (v.size s) (v.good s) c.args.start m.current m.pending (depth m.state) m.invariant.0 _ says few) in
    splits_less (v.size s) (v.good s) c.args.start m.current m.pending (depth m.state) m.invariant.0 _ says room few _ _ c.branch-first.ensures.branches c.pending-count.ensures.count

pub machine-preserved : goal.machine-preserved
machine-preserved g c =
    let v = g.L.Look in
    let s = c.args.look.now in
    let m = c.machine in
    let few : v.size s ≤ 64 = v.few s in
    let says = subst (Says (v.size s) (v.good s) m.current) c.in_default-Split.is-1 c.look-found.ensures.says in
    let room : depth m.state < length m.pending = omega (arith, m.invariant.1, has_room (v.size s) (v.good s) c.args.start m.current m.pending (depth m.state) m.invariant.0 _ says few) in (
      splits (v.size s) (v.good s) c.args.start m.current m.pending (depth m.state) m.invariant.0 _ says room few _ _ c.branch-first.ensures.branches c.pending-count.ensures.count,
      length-set m.pending _ _ ∙ m.invariant.1,
    )
