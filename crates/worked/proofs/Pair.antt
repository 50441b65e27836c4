-- Two baselines that share: their table, and its answer.
use Rattle.std.proofs.Common.{◌≡◌, ℕ, zero, suc, ◌<◌, ◌≤◌, Bool, true, false, ltb, ◌↔◌, [], ◌∷◌, sym, refl, ◌∙◌, ⊎_elim, arith}
use lib.Count.{count_trailing_zeros}
use Rattle.std.proofs.lemmas.Bool.{lt-ltb, cases_Bool, false≢true}
use Rattle.std.proofs.lemmas.Bool.Decides.{nat_tests}
use Rattle.bitset.specs.Sets.{has, minus, set_of}
use Rattle.evidence.specs.Table.{Table, Sound}
use Rattle.evidence.specs.Pairs.{pairs}
use Rattle.theory.specs.Layout.{Ends}
use Rattle.theory.specs.Clusters.{Doubtful}
use Rattle.theory.specs.Placed.{Solved}
use Rattle.theory.specs.Stars.{row, far}
use Rattle.theory.specs.Walks.{fringe, meet, walk_on, walk}
use Rattle.theory.specs.Search.{all, between, first, handed, spread, agreed, fits_at, verified, passing_below, passing}
use Rattle.theory.specs.Imagers.{second, begun_by, begins, imagers, place, second_place}
use Rattle.theory.specs.Answer.{near_of, contested, lowest_that, found}
use Rattle.theory.proofs.Searched.{search_right}
use Rattle.theory.proofs.Unique.{answer_fixed}
use Rattle.survey.specs.History.{enlisted, sharing, table_of}
use Rattle.worked.specs.Deeds.{shared}

-- every ledger has room for the first sharing pair
pub roomy : (most : ℕ) → 1 ≤ most → ltb (pairs (table_of (enlisted 620 ∷ (enlisted 500 ∷ [])))) most ≡ true
unfolding pairs
roomy most h = lt-ltb 0 most h

abbrev pub the_pair : Table
the_pair = table_of shared

alike : (i j : ℕ) → sharing shared i j ≡ sharing shared j i
alike i j = grind (arith, nat_tests)

apart : (i : ℕ) → sharing shared i i ≡ false
apart i = grind (arith, nat_tests)

within : (i j : ℕ) → 2 ≤ i → sharing shared i j ≡ false
within i j past = grind (arith, nat_tests)

pub sound : Sound the_pair
sound = record { few = omega arith; alike = alike; apart = apart; within = within }

-- What the search finds for the pair.
pub record Finds : Type 0 where
  pub solved : Solved the_pair (found the_pair).imagers (found the_pair).ends (found the_pair).doubtful
  three : (found the_pair).imagers ≡ 3
  first : (found the_pair).ends 0 ≡ (0, 1)
  second : (found the_pair).ends 1 ≡ (0, 2)
  certain_first : (found the_pair).doubtful 0 ≡ false
  certain_second : (found the_pair).doubtful 1 ≡ false

pub finds : Finds
unfolding has minus set_of count_trailing_zeros row far fringe meet walk_on walk all between first handed spread agreed fits_at verified passing_below passing near_of contested lowest_that second begun_by begins imagers place second_place
finds = record {
  solved = (search_right the_pair sound).0 refl;
  three = refl;
  first = refl;
  second = refl;
  certain_first = refl;
  certain_second = refl;
}

-- The answer of the pair: three imagers, of which both baselines have the first, and neither is doubtful.
pub record Answer (imagers : ℕ) (ends : ℕ → Ends) (doubtful : ℕ → Bool) : Type 0 where
  pub three : imagers ≡ 3
  pub first : ends 0 ≡ (0, 1)
  pub second : ends 1 ≡ (0, 2)
  pub certain_first : doubtful 0 ≡ false
  pub certain_second : doubtful 1 ≡ false

-- a test that tells what is doubtful tells that neither is
pub certain : (i : ℕ) → i < 2 → (b : Bool) → ((b ≡ true) ↔ Doubtful the_pair i) → b ≡ false
certain i l b tells' =
    ⊎_elim (λ yes'. absurd (false≢true (sym (plain i l) ∙ (finds.solved.doubt i l).1 (tells'.0 yes')))) (λ no'. no') (cases_Bool b)
  where
    plain : (i : ℕ) → i < 2 → (found the_pair).doubtful i ≡ false
    plain zero l = finds.certain_first
    plain (suc zero) l = finds.certain_second
    plain (suc (suc i)) l = absurd (omega arith)

pub the_answer : {imagers : ℕ} {ends : ℕ → Ends} {doubtful : ℕ → Bool} → Solved the_pair imagers ends doubtful → Answer imagers ends doubtful
the_answer {imagers} {ends} {doubtful} s =
    let o = finds.solved in
    let same = answer_fixed the_pair ends _ imagers _ s.chosen o.chosen s.numbered o.numbered in
    record {
      three = same.1 ∙ finds.three;
      first = same.0 0 (omega arith) ∙ finds.first;
      second = same.0 1 (omega arith) ∙ finds.second;
      certain_first = certain 0 (omega arith) (doubtful 0) (s.doubt 0 (omega arith));
      certain_second = certain 1 (omega arith) (doubtful 1) (s.doubt 1 (omega arith));
    }
