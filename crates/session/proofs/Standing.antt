-- A request on a pair that its model describes, and on one that came from new.
use Rattle.std.proofs.Common.{◌≡◌, ◌≤◌, List, [], ◌∷◌, ◌++◌, Result, sym, refl, ap, ◌∙◌, subst, ap₂, arith}
use Rattle.solver.specs.declared.Solver.{Ghosts}
use Rattle.sheets.specs.declared.Sheet.{Sheet}
use Rattle.sheets.specs.Sheets.{sheet_meaning}
use Rattle.model.specs.Model.{SheetModel, PairModel}
use Rattle.model.specs.Calls.{answered, next}
use Rattle.model.specs.Guarantee.{Event, calls_of, after}
use Rattle.model.proofs.Whole.{onward}
use Rattle.session.specs.declared.pair.Pair.{Pair}
use Rattle.session.specs.declared.request.Request.{Request}
use Rattle.session.specs.declared.request.Answer.{Answer}
use Rattle.session.specs.declared.request.Refused.{Refused}
use Rattle.session.specs.Requests.{asks, says, event}
use Rattle.session.specs.Served.{request_reply, make_after, break_after}
use Rattle.session.specs.Mirrors.{meaning_of, Mirrors, Stands}
use Rattle.session.proofs.Cards.{request_turned}

pub after_behind : (p : PairModel) (front back : List Event) → after p (calls_of (front ++ back)) ≡ after (after p (calls_of front)) (calls_of back)
after_behind p [] back = refl
after_behind p (e ∷ front) back = after_behind (next p e.call) front back

-- a sheet has at most 32 contacts, and so has its model
few_contacts : {S : Type 0} (v : Ghosts S) (x : Sheet S v) (s : SheetModel) → sheet_meaning v x ≡ meaning_of s → s.contacts ≤ 32
few_contacts v x s means =
    let few : v.size x.solver ≤ 32 = (v.few x.solver).1 in
    let same : v.size x.solver ≡ s.contacts = ap (λ z. z.meaning.contacts) means in
    omega arith

module _ {M B : Type 0} (m : Ghosts M) (b : Ghosts B) (pair pair' : Pair M B m b) (q : Request) (r : Result Answer Refused) where
  module _ (said : says r ≡ request_reply (sheet_meaning m pair.make) (sheet_meaning b pair.brk) q) (made : sheet_meaning m pair'.make ≡ make_after (sheet_meaning m pair.make) q) (broken : sheet_meaning b pair'.brk ≡ break_after (sheet_meaning b pair.brk) q) where
    pub mirrored : (p : PairModel) → Mirrors m b pair p → (says r ≡ answered p (asks q)) × Mirrors m b pair' (next p (asks q))
    mirrored p h =
        let turned = request_turned p q (few_contacts m pair.make p.make h.make_means) (few_contacts b pair.brk p.brk h.break_means) h.make_named h.break_named in (
          said ∙ ap₂ (λ x y. request_reply x y q) h.make_means h.break_means ∙ turned.reply,
          record {
            make_means = made ∙ ap (λ x. make_after x q) h.make_means ∙ turned.make_means;
            break_means = broken ∙ ap (λ x. break_after x q) h.break_means ∙ turned.break_means;
            make_named = turned.make_named;
            break_named = turned.break_named;
          },
        )

    pub goes_on : (start : PairModel) (past : List Event) → Stands m b pair start past → Stands m b pair' start (past ++ event q r ∷ [])
    goes_on start past s =
        let both = mirrored (after start (calls_of past)) s.here in
        record {
          new = s.new;
          guaranteed = onward start past (event q r ∷ []) s.new s.guaranteed (both.0, tt);
          here = subst (Mirrors m b pair') (sym (after_behind start past (event q r ∷ []))) both.1;
        }
