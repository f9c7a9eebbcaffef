-- A list of requests that is served from the first to the last.
use Rattle.std.proofs.Common.{◌≡◌, List, [], ◌∷◌, ◌++◌, length, Ok, Err, vec_items, Result, Vec, sym, refl, ap, ◌∙◌, subst, append_assoc, arith, length-append, MatchResult}
use Rattle.solver.specs.declared.Solver.{Ghosts}
use Rattle.session.specs.declared.pair.Pair.{Pair}
use Rattle.model.specs.Model.{PairModel}
use Rattle.model.specs.Calls.{answered, next}
use Rattle.model.specs.Guarantee.{Event, calls_of, after, ByTheModel}
use Rattle.model.proofs.Runs.{joined_by}
use Rattle.model.proofs.Whole.{onward}
use Rattle.session.specs.declared.request.Request.{Request}
use Rattle.session.specs.declared.request.Answer.{Answer}
use Rattle.session.specs.declared.request.Refused.{Refused}
use Rattle.session.specs.Requests.{asks, says, event, events}
use Rattle.session.specs.Mirrors.{Mirrors, Stands, Served}
use Rattle.std.specs.declared.alloc.Global.{Global}
use Rattle.session.proofs.Standing.{after_behind}

events_more : (qs : List Request) (rs : List (Result Answer Refused)) (q : Request) (r : Result Answer Refused) → length rs ≡ length qs → events (qs ++ q ∷ []) (rs ++ r ∷ []) ≡ events qs rs ++ event q r ∷ []
events_more [] [] q r e = refl
events_more [] (x ∷ rs) q r e = absurd (omega arith)
events_more (y ∷ qs) [] q r e = absurd (omega arith)
events_more (y ∷ qs) (x ∷ rs) q r e = ap (λ es. event y x ∷ es) (events_more qs rs q r (omega arith))

module _ {M B : Type 0} (m : Ghosts M) (b : Ghosts B) where
  -- the guarantee goes on over a list that was served
  pub list_goes_on : (pair₀ pair : Pair M B m b) (qs : List Request) (rs : List (Result Answer Refused)) → ((p : PairModel) → Mirrors m b pair₀ p → Served m b pair p qs rs) → (start : PairModel) (past : List Event) → Stands m b pair₀ start past → Stands m b pair start (past ++ events qs rs)
  list_goes_on pair₀ pair qs rs served start past s =
      let d = served (after start (calls_of past)) s.here in
      record {
        new = s.new;
        guaranteed = onward start past (events qs rs) s.new s.guaranteed d.by_the_model;
        here = subst (Mirrors m b pair) (sym (after_behind start past (events qs rs))) d.here;
      }

  -- what was served before the loop comes to those that wait
  pub record Serving (pair₀ pair : Pair M B m b) (all waiting : List Request) (rs : List (Result Answer Refused)) : Type 0 where
    pub front : List Request
    pub cut : front ++ waiting ≡ all
    pub as_many : length rs ≡ length front
    pub served : (p : PairModel) → Mirrors m b pair₀ p → Served m b pair p front rs
    pub goes_on : (start : PairModel) (past : List Event) → Stands m b pair₀ start past → Stands m b pair start (past ++ events front rs)

  pub serving_none : (pair : Pair M B m b) (waiting : List Request) (rs : List (Result Answer Refused)) → rs ≡ [] → Serving pair pair waiting waiting rs
  serving_none pair waiting rs none = record {
    front = [];
    cut = refl;
    as_many = ap length none;
    served = at_once;
    goes_on = list_goes_on pair pair [] rs at_once;
  } where
    at_once : (p : PairModel) → Mirrors m b pair p → Served m b pair p [] rs
    at_once p h = subst (Served m b pair p []) (sym none) (record { as_many = refl; by_the_model = tt; here = h })

  module _ (pair₀ pair pair' : Pair M B m b) (all was now : List Request) (rs rs' : List (Result Answer Refused)) (q : Request) (r : Result Answer Refused) where
    pub serving_more : Serving pair₀ pair all was rs → was ≡ q ∷ now → rs' ≡ rs ++ r ∷ [] → ((p : PairModel) → Mirrors m b pair p → (says r ≡ answered p (asks q)) × Mirrors m b pair' (next p (asks q))) → Serving pair₀ pair' all now rs'
    serving_more s taken placed turn = record {
      front = s.front ++ q ∷ [];
      cut = append_assoc s.front (q ∷ []) now ∙ ap (λ t. s.front ++ t) (sym taken) ∙ s.cut;
      as_many = ap length placed ∙ more;
      served = whole;
      goes_on = list_goes_on pair₀ pair' (s.front ++ q ∷ []) rs' whole;
    } where
      more : length (rs ++ r ∷ []) ≡ length (s.front ++ q ∷ [])
      more = let known = s.as_many in omega (arith, length-append rs (r ∷ []), length-append s.front (q ∷ []))

      later : (p : PairModel) → Served m b pair p s.front rs → Served m b pair' p (s.front ++ q ∷ []) (rs ++ r ∷ [])
      later p d =
          let done : List Event = events s.front rs in
          let here = turn (after p (calls_of done)) d.here in
          let longer = events_more s.front rs q r s.as_many in
          record {
            as_many = more;
            by_the_model = subst (ByTheModel p) (sym longer) (joined_by p done (event q r ∷ []) d.by_the_model (here.0, tt));
            here = subst (λ es. Mirrors m b pair' (after p (calls_of es))) (sym longer) (subst (Mirrors m b pair') (sym (after_behind p done (event q r ∷ []))) here.1);
          }

      whole : (p : PairModel) → Mirrors m b pair₀ p → Served m b pair' p (s.front ++ q ∷ []) rs'
      whole p h = subst (Served m b pair' p (s.front ++ q ∷ [])) (sym placed) (later p (s.served p h))

  -- the guarantee goes on over a list that was served, or for which there was no memory
  pub result_goes_on : (pair₀ pair : Pair M B m b) (qs : List Request) (r : Result (Vec (Result Answer Refused) Global) (Vec Request Global)) → ((p : PairModel) → Mirrors m b pair₀ p → MatchResult r (λ rs. Served m b pair p qs (vec_items rs)) (λ _. Mirrors m b pair p)) → (start : PairModel) (past : List Event) → Stands m b pair₀ start past → MatchResult r (λ rs. Stands m b pair start (past ++ events qs (vec_items rs))) (λ _. Stands m b pair start past)
  result_goes_on pair₀ pair qs (Ok rs) served start past s = list_goes_on pair₀ pair qs (vec_items rs) served start past s
  result_goes_on pair₀ pair qs (Err back) kept start past s = record { new = s.new; guaranteed = s.guaranteed; here = kept (after start (calls_of past)) s.here }
