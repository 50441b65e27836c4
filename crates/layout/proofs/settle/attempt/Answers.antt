use Rattle.std.proofs.Common.{ℕ, sym, ◌∙◌, subst}
use Rattle.std.proofs.lemmas.Bool.Decides.{same_from_decides}
use Rattle.theory.specs.Clusters.{Reach}
use Rattle.theory.specs.Search.{first, Handed, passes}
use Rattle.layout.specs.Tables.{bits_at}
use Rattle.layout.specs.Told.{told}
use Rattle.layout.proofs.Attempts.{near_small, near_first, passes_tells}
use Rattle.layout.proofs.settle.attempt.Goals as goal

pub verify-requires : goal.verify-requires
verify-requires c =
    let w = c.args.walk.now in
    let near = bits_at c.spread.new.self.near in
    record {
      rows = c.requires.rows ∙ sym c.spread.ensures.rows;
      small = near_small (told w.rows.now) w.rows.now.sound w.root w.walked.below c.args.cross near
          (λ v reach. subst (λ a. Handed (told w.rows.now) w.root a near v) c.first_star-first.ensures (c.spread.ensures.handed v reach));
    }

pub returns : goal.returns
returns c =
    let w = c.args.walk.now in
    let t = told w.rows.now in
    let near = bits_at c.spread.new.self.near in
    let handed : (v : ℕ) → Reach t w.root v → Handed t w.root (first t w.root c.args.cross) near v =
    λ v reach. subst (λ a. Handed t w.root a near v) c.first_star-first.ensures (c.spread.ensures.handed v reach) in
    record {
      rows = c.spread.ensures.rows;
      passes = same_from_decides c.verify.result (passes t w.root c.args.cross) c.verify.ensures
          (passes_tells t w.rows.now.sound w.root w.walked.below c.args.cross near handed);
      stars = λ h. record { stars = c.verify.ensures.0 h; first = near_first t w.rows.now.sound w.root w.walked.below c.args.cross near handed };
      kept = c.spread.ensures.kept;
    }
