-- What a look at an assignment finds, and what the search answers, for any set of good settings of n variables.
use Rattle.std.specs.Prelude.{◌≡◌, ℕ, suc, ◌<◌, Bool, true, false, ◌&&◌, List, length, Some, None, Option, ◌≢◌, slice_index_or}
use Rattle.settings.specs.Least.{some}
use Rattle.search.specs.declared.Assignment.{Assignment}
use Rattle.search.specs.declared.Found.{Found}
use Rattle.search.specs.declared.Found.TheVariants.{Conflict, Forced, Narrowed, Met, MetBy, Split}
use Rattle.search.specs.declared.State.{State}
use Rattle.search.specs.declared.State.TheVariants.{Free, Tried}
use Rattle.search.specs.declared.Branches.{Branches}
use Rattle.search.specs.Assignments.{agreeing, decided, Clear, with_value, filled, undecided}

-- b decides more than a, and no good setting is lost
pub record Narrows (n : ℕ) (good : List Bool → Bool) (a b : Assignment) : Type 0 where
  pub clear : Clear n a → Clear n b
  pub more : (x : List Bool) → length x ≡ n → agreeing b x ≡ true → agreeing a x ≡ true
  pub keeps : (x : List Bool) → length x ≡ n → good x ≡ true → agreeing a x ≡ true → agreeing b x ≡ true
  pub fewer : undecided n b < undecided n a

-- what a look finds at an assignment is so
abbrev pub Says : ℕ → (List Bool → Bool) → Assignment → Found → Type 0
Says n good a Conflict = (x : List Bool) → length x ≡ n → good x ≡ true → agreeing a x ≢ true
Says n good a (Forced k b) = (k < n) × (decided a k ≡ false) × ((x : List Bool) → length x ≡ n → good x ≡ true → agreeing a x ≡ true → slice_index_or x k false ≡ b)
Says n good a (Narrowed b) = Narrows n good a b
Says n good a Met = Clear n a → good (filled n a) ≡ true
Says n good a (MetBy b) = Clear n a → (good (filled n b) && agreeing a (filled n b)) ≡ true
Says n good a (Split k) = (k < n) × (decided a k ≡ false)

-- no exactly where no good setting agrees with the start, or one that does
abbrev pub Answer : ℕ → (List Bool → Bool) → Assignment → Option Assignment → Type 0
Answer n good start None = some n (λ x. good x && agreeing start x) ≡ false
Answer n good start (Some a) = (good (filled n a) && agreeing start (filled n a)) ≡ true

-- how many choices are pending
abbrev pub depth : State → ℕ
depth Free = 0
depth (Tried k) = suc k

abbrev pub branches : Assignment → ℕ → Branches
branches a k = record { first = with_value a k false; pending = with_value a k true }
