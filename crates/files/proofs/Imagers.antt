-- The lines of an imager, baseline by baseline.
use Rattle.std.proofs.Common.{◌≡◌, ℕ, zero, suc, ◌+◌, Bool, true, false, cond, List, [], ◌∷◌, ◌++◌, refl, ap, ◌∙◌, ap₂, arith}
use Rattle.std.specs.List.{flat_map}
use Rattle.std.proofs.lemmas.List.{append-nil}
use Rattle.std.proofs.lemmas.Grind.{flat_map-append}
use Rattle.theory.specs.Layout.{Ends, stands}
use Rattle.theory.specs.Numbers.{baselines_from, baselines_at}
use Rattle.theory.specs.Record.{ends_of}
use Rattle.files.specs.declared.contents.Contents.{Contents}
use Rattle.files.specs.declared.baseline.Baseline.{Baseline}
use Rattle.files.specs.Baseline.{is_at, lens_at}
use Rattle.files.specs.Contents.{baselines_of, span_at, baseline_of, lens_of, imager_of}
use Rattle.files.specs.Each.{each}
use Rattle.files.specs.Profile.{profile_lens}

-- one baseline more
baselines_from_more : (e : ℕ → Ends) (a i n : ℕ)
    → baselines_from e a i (suc n) ≡ baselines_from e a i n ++ cond (stands a (e (i + n))) ((i + n) ∷ []) []
baselines_from_more e a i zero = let z : i + 0 ≡ i = omega arith in rw z
baselines_from_more e a i (suc n) =
    let s : i + 1 + n ≡ i + suc n = omega arith in
    let more = rw s at (baselines_from_more e a (i + 1) n) in
    behind _ _ _ (stands a (e i)) more
  where
    behind : (x y z : List ℕ) (b : Bool) → x ≡ y ++ z → cond b (i ∷ x) x ≡ cond b (i ∷ y) y ++ z
    behind x y z true h = ap (λ (l : List ℕ). i ∷ l) h
    behind x y z false h = h

pub baselines_more : (e : ℕ → Ends) (a n : ℕ) → baselines_at (suc n) e a ≡ baselines_at n e a ++ cond (stands a (e n)) (n ∷ []) []
baselines_more e a n = let z : 0 + n ≡ n = omega arith in rw z at (baselines_from_more e a 0 n)

joined_cond : (f : ℕ → List ℕ) (b : Bool) (n : ℕ) → flat_map f (cond b (n ∷ []) []) ≡ cond b (f n) []
joined_cond f true n = append-nil (f n)
joined_cond f false n = refl

-- the texts of an imager's baselines are those of all baselines, where the others have none
pub joined_each : (f : ℕ → List ℕ) (e : ℕ → Ends) (a n : ℕ) → flat_map f (baselines_at n e a) ≡ each (λ i. cond (stands a (e i)) (f i) []) n
joined_each f e a zero = refl
joined_each f e a (suc n) =
    ap (flat_map f) (baselines_more e a n) ∙ flat_map-append f (baselines_at n e a) _
    ∙ ap₂ (λ (x y : List ℕ). x ++ y) (joined_each f e a n) (joined_cond f (stands a (e n)) n)

pub imager_each : (t : Contents) (a : ℕ) → imager_of t a ≡ each (lens_of t a) (baselines_of t)
imager_each t a = joined_each (λ i. profile_lens a i (span_at t i)) (ends_of t.record.now) a (baselines_of t)

-- the line of an imager for a baseline, where it is at it and where it is not
pub lens_there : (t : Contents) (a i : ℕ) (b : Baseline) (has : Bool) → b ≡ baseline_of t i → has ≡ is_at a b → has ≡ true → lens_at a b ≡ lens_of t a i
lens_there t a i b has e h there = let at : is_at a (baseline_of t i) ≡ true = cc in rw (e, at)

pub lens_none : (t : Contents) (a i : ℕ) (b : Baseline) (has : Bool) → b ≡ baseline_of t i → has ≡ is_at a b → has ≡ false → [] ≡ lens_of t a i
lens_none t a i b has e h none = let at : is_at a (baseline_of t i) ≡ false = cc in rw at
