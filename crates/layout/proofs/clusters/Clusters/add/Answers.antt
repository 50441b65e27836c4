use Rattle.std.proofs.Common.{◌≡◌, true, false, sym, ◌∙◌, subst, ap₂, Option, None, Some, Err, MatchOption, []}
use Rattle.std.specs.Option.{ok_or}
use Rattle.std.proofs.lemmas.Result.{err_from_is_err_and}
use Rattle.evidence.specs.declared.refusal.Refusal.TheVariants.{NoLayout}
use mathlib.Core.Bool.{or-false}
use Rattle.bitset.specs.Sets.{has}
use Rattle.theory.specs.Search.{passing, Settled}
use Rattle.layout.specs.declared.rows.Rows.{Rows}
use Rattle.layout.specs.Tables.{bits_at}
use Rattle.layout.specs.Told.{told}
use Rattle.layout.proofs.AllSettled.{settling_clash, settling_walk}
use Rattle.layout.proofs.clusters.Clusters.add.Goals as goal

-- a value that is not there is told as the error that was given
refused : {A E P : Type 0} (Q : A → Type 0) (o : Option A) (e y : E) → MatchOption o P Q → Err y ≡ ok_or o e → (y ≡ e) × P
refused _ None e y p h = (cc h, p)
refused _ (Some _) e y p h = absurd (cc h)

pub returns-in_err-doubtful-clause-added : goal.returns-in_err-doubtful-clause-added
returns-in_err-doubtful-clause-added c =
    let x = c.args.self.now.near.rows.now in
    let w = c.of_cluster-walk in
    let p = err_from_is_err_and c.from_residual.result c.from_residual.ensures.1 in
    let no = refused _ c.settle.result (NoLayout c.args.r) _ c.settle.ensures.settled c.in_err-doubtful.ensures.value in
    rw (p.1, p.2) (
      no.0,
      settling_clash (told x) x.sound c.args.self.now c.args.r c.requires.below c.requires.settling c.requires.fresh
          (ap₂ (λ (x : Rows) r. passing (told x) r) (sym w.ensures.rows) (sym w.ensures.from) ∙ no.1),
    )

pub returns-then-doubtful-clause-added : goal.returns-then-doubtful-clause-added
returns-then-doubtful-clause-added c =
    let w = c.of_cluster-walk in
    settling_walk c.args.self.now.near.rows.now c.args.r w.result w.ensures.rows w.ensures.from c.args.self.now
    (record { near = c.settle.new.near; settled = c.union-self.result; doubtful = c.union-self-then-doubtful.result })
    true c.requires.settling c.requires.fresh c.settle.ensures.kept
    (subst (Settled (told w.result.rows.now) w.result.root (bits_at c.settle.new.near.near)) c.if-doubtful.true (subst (λ o. MatchOption o (passing (told w.result.rows.now) w.result.root ≡ []) (Settled (told w.result.rows.now) w.result.root (bits_at c.settle.new.near.near))) c.in_ok-doubtful.ensures.ok_part c.settle.ensures.settled))
    c.union-self.ensures.members c.union-self-then-doubtful.ensures.members

pub returns-else-doubtful-clause-added : goal.returns-else-doubtful-clause-added
returns-else-doubtful-clause-added c =
    let w = c.of_cluster-walk in
    settling_walk c.args.self.now.near.rows.now c.args.r w.result w.ensures.rows w.ensures.from c.args.self.now
    (record { near = c.settle.new.near; settled = c.union-self.result; doubtful = c.args.self.now.doubtful })
    false c.requires.settling c.requires.fresh c.settle.ensures.kept
    (subst (Settled (told w.result.rows.now) w.result.root (bits_at c.settle.new.near.near)) c.if-doubtful.false (subst (λ o. MatchOption o (passing (told w.result.rows.now) w.result.root ≡ []) (Settled (told w.result.rows.now) w.result.root (bits_at c.settle.new.near.near))) c.in_ok-doubtful.ensures.ok_part c.settle.ensures.settled))
    c.union-self.ensures.members (λ v. sym (or-false (has c.args.self.now.doubtful.bits v)))
