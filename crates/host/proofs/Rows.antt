-- A search of the rows that asks each for a place.
use Rattle.std.proofs.Common.{◌≡◌, ℕ, ◌+◌, ◌<◌, None, Some, Option, MatchOption, sym, subst, arith}
use denote.Param.Members.{Mut, Called}
use Rattle.std.specs.Bool.{IsTrue}
use Rattle.std.specs.Option.{option_map, IfSome, IsSomeAnd}
use Rattle.std.specs.Iterator.Runs.{SomeRun, AllItemsGive, IsFirstToGive, CallKeepsClosure, ItemsCountUp}
use Rattle.std.proofs.iter.Yields.{nat_range_steps}
use Rattle.std.proofs.iter.runs.Sources.{range_runs}

if_there : (o : Option ℕ) (k : ℕ) (P : ℕ → Type 0) → option_map (λ y. y) o ≡ Some (0 + k) → IfSome o P → P k
if_there None k P e h = absurd cc
if_there (Some x) k P e h = let m : x ≡ 0 + k = cc (e) in subst P {x = x} {y = k} (omega (arith, m)) h

there : (o : Option ℕ) (k : ℕ) (P : ℕ → Type 0) → option_map (λ y. y) o ≡ Some (0 + k) → IsSomeAnd o P → P k
there None k P e h = absurd h
there (Some x) k P e h = let m : x ≡ 0 + k = cc (e) in subst P {x = x} {y = k} (omega (arith, m)) h

-- the first that has one, of rows of which each tells its own
pub found_row : {F : Type 0} {g : Mut F (ℕ × Unit {0}) (Option ℕ)} (place : ℕ → Option ℕ) (n : ℕ) (f : F) (r : Option ℕ)
    → SomeRun nat_range_steps (record { start = 0; end = n }) (λ p. MatchOption r (IsTrue p.whole × AllItemsGive p g f None)
    (λ y. (i : ℕ) × (i < p.len) × (p.len ≡ i + 1) × IsFirstToGive p g f (Some y) None i))
    → CallKeepsClosure g f → ((x : ℕ) (o : Option ℕ) → Called g f (x, tt) o f → o ≡ place x)
    → MatchOption r ((k : ℕ) → k < n → place k ≡ None) (λ y. (i : ℕ) × (i < n) × (place i ≡ Some y) × ((k : ℕ) → k < i → place k ≡ None))
found_row {g} place n f None run keeps is =
    let p = run.0 in
    let rows : ItemsCountUp p 0 n = subst (λ s. ItemsCountUp p s.start s.end) run.1 (range_runs p p.seen) in
    λ k l. sym (is k None (if_there (p.at k) k (λ x. Called g f (x, tt) None f) (rows.3 k (omega (arith, rows.1 run.2.0))) (run.2.1 keeps k)))
found_row {g} place n f (Some y) run keeps is =
    let p = run.0 in
    let rows : ItemsCountUp p 0 n = subst (λ s. ItemsCountUp p s.start s.end) run.1 (range_runs p p.seen) in
    let i = run.2.0 in
    let first = run.2.3 keeps in (
      i,
      omega (arith, run.2.1, rows.0),
      sym (is i (Some y) (there (p.at i) i (λ x. Called g f (x, tt) (Some y) f) (rows.3 i run.2.1) first.0)),
      λ k l. sym (is k None (there (p.at k) k (λ x. Called g f (x, tt) None f) (rows.3 k (omega (arith, run.2.1))) (first.1 k l))),
    )
