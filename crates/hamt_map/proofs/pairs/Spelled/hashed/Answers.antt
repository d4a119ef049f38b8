use Rattle.std.proofs.Common.{List, ℕ, ap, subst, sym, ◌∙◌}
use Rattle.std.proofs.lemmas.List.Elements.{All-push}
use Rattle.std.specs.Prelude.{All}
use Rattle.hamt_map.specs.Holds.{Holds}
use Rattle.hamt_map.specs.Lent.{IsHashed}
use Rattle.hamt_map.proofs.LentPairs.{lent_more}
use Rattle.hamt_map.proofs.Spellings.{view}
use Rattle.hamt_map.proofs.pairs.Spelled.hashed.Goals as goal

pub loop-key-preserved : goal.loop-key-preserved
loop-key-preserved c = record {
  all =
      lent_more c.args.self.now (view c.loop-key.key-iterator) _ c.loop-key.hashed.items c.push.new.self.items c.of.result (c.in-Some.key.now.items, c.in-Some.spelling.now.items) c.loop-key.invariant.all (ap view c.in-Some.ensures.steps) c.in_ok-push.ensures.items
      (c.of.ensures.key ∙ c.as_slice.ensures.value) (c.of.ensures.spelling ∙ c.as_slice-in-loop-key.ensures.value);
  hashes = subst (All (IsHashed c.args.below)) (sym c.in_ok-push.ensures.items) (All-push (IsHashed c.args.below) c.loop-key.hashed.items c.of.result c.loop-key.invariant.hashes c.of.ensures.hash);
}

pub returns-clause-held : goal.returns-clause-held
returns-clause-held c = (c.self.invariant.0, subst (λ (pairs : List (List ℕ × List ℕ)). Holds pairs c.self.invariant.0) c.self.view_is c.self.invariant.1)
