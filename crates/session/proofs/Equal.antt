-- Two pairs that were alike when new and were asked the same have answered the same.
use Rattle.std.proofs.Common.{◌≡◌, List, [], ◌∷◌, ◌++◌, map, length, Ok, Err, Result, sym, refl, ap, ◌∙◌, ap₂, arith, MatchResult}
use Rattle.std.proofs.lemmas.List.{append_cancel_left, map-append}
use Rattle.model.specs.Model.{PairModel}
use Rattle.model.specs.Guarantee.{Event, calls_of, NewPair, AlikePairs, Guaranteed}
use Rattle.session.specs.declared.request.Request.{Request}
use Rattle.session.specs.declared.request.Answer.{Answer}
use Rattle.session.specs.declared.request.Refused.{Refused}
use Rattle.session.specs.Requests.{asks, says, events}
use Rattle.session.specs.Mirrors.{BothServed}

calls_asked : (qs : List Request) (rs : List (Result Answer Refused)) → length rs ≡ length qs → calls_of (events qs rs) ≡ map asks qs
calls_asked [] rs e = refl
calls_asked (q ∷ qs) [] e = absurd (omega arith)
calls_asked (q ∷ qs) (r ∷ rs) e = ap (λ cs. asks q ∷ cs) (calls_asked qs rs (omega arith))

replies_said : (qs : List Request) (rs : List (Result Answer Refused)) → length rs ≡ length qs → map (λ e. e.reply) (events qs rs) ≡ map says rs
replies_said [] [] e = refl
replies_said [] (r ∷ rs) e = absurd (omega arith)
replies_said (q ∷ qs) [] e = absurd (omega arith)
replies_said (q ∷ qs) (r ∷ rs) e = ap (λ cs. says r ∷ cs) (replies_said qs rs (omega arith))

module _ (start start' : PairModel) (past past' : List Event) (qs qs' : List Request) (rs rs' : List (Result Answer Refused)) (many : length rs ≡ length qs) (many' : length rs' ≡ length qs') where
  pub same_said : NewPair start' → AlikePairs start start' → calls_of past' ≡ calls_of past → map asks qs' ≡ map asks qs → Guaranteed start past → Guaranteed start' past' → Guaranteed start (past ++ events qs rs) → Guaranteed start' (past' ++ events qs' rs') → map says rs' ≡ map says rs
  same_said new alike before same g g' h h' =
      let called : map asks qs' ≡ map asks qs → calls_of (events qs' rs') ≡ calls_of (events qs rs) = λ e. calls_asked qs' rs' many' ∙ e ∙ sym (calls_asked qs rs many) in
      let calls : calls_of (past' ++ events qs' rs') ≡ calls_of (past ++ events qs rs) =
      map-append (λ (e : Event). e.call) past' (events qs' rs') ∙ ap₂ (λ a b. a ++ b) before (called same) ∙ sym (map-append (λ (e : Event). e.call) past (events qs rs)) in
      let whole : past' ++ events qs' rs' ≡ past ++ events qs rs = h.second_pair start' (past' ++ events qs' rs') new alike h'.run calls in
      let front : past' ≡ past = g.second_pair start' past' new alike g'.run before in
      let back : events qs' rs' ≡ events qs rs = append_cancel_left past (events qs' rs') (events qs rs) (ap (λ p. p ++ events qs' rs') (sym front) ∙ whole) in
      sym (replies_said qs' rs' many') ∙ ap (map (λ e. e.reply)) back ∙ replies_said qs rs many

-- of two results, each known in two ways
pub both_served : {A E : Type 0} (x y : Result A E) (P S P' S' : A → Type 0) (Q T Q' T' : E → Type 0) {R : A → A → Type 0} → MatchResult x P Q → MatchResult x S T → MatchResult y P' Q' → MatchResult y S' T' → ((a b : A) → P a → S a → P' b → S' b → R a b) → BothServed x y R
both_served (Ok a) (Ok b) P S P' S' Q T Q' T' p s p' s' f = f a b p s p' s'
both_served (Ok a) (Err e) P S P' S' Q T Q' T' p s p' s' f = tt
both_served (Err e) (Ok b) P S P' S' Q T Q' T' p s p' s' f = tt
both_served (Err e) (Err d) P S P' S' Q T Q' T' p s p' s' f = tt
