use Rattle.std.proofs.Common.{ap, subst, sym}
use Rattle.std.proofs.lemmas.List.Elements.{All-push}
use Rattle.std.specs.Prelude.{All}
use Rattle.hamt_map.specs.Lent.{IsHashed}
use Rattle.hamt_map.proofs.BucketSteps.{shown}
use Rattle.hamt_map.proofs.LentPairs.{lent_more}
use Rattle.hamt_map.proofs.kept_bucket.by_hash.Goals as goal

pub loop-key-preserved : goal.loop-key-preserved
loop-key-preserved c = record {
  all = lent_more (shown c.args.ordered.now.entries) (shown c.loop-key.key-iterator) _ c.loop-key.hashed.items c.push.new.self.items c.of.result (c.in-Some.key.now.now, c.in-Some.spelling.now.now) c.loop-key.invariant.all (ap shown c.in-Some.ensures.steps)
      c.in_ok-push.ensures.items c.of.ensures.key c.of.ensures.spelling;
  hashes = subst (All (IsHashed c.args.below)) (sym c.in_ok-push.ensures.items) (All-push (IsHashed c.args.below) c.loop-key.hashed.items c.of.result c.loop-key.invariant.hashes c.of.ensures.hash);
}
