use Rattle.std.proofs.Common.{Option, List, ℕ, Some, None, Bor, ap, refl, sym, ◌∙◌}
use Rattle.std.specs.FinMap.{entries}
use Rattle.std.specs.Option.{option_map}
use Rattle.hamt_map.proofs.UnderRoot.{nothing_under, there_under}
use Rattle.hamt_map.proofs.finding.kept_value.Goals as goal

pub returns-in-None : goal.returns-in-None
returns-in-None g c = λ kept is.
    nothing_under kept c.args.key.now _ (ap (option_map (λ s. s.now)) c.in-None.is) (c.in_ok-find_under.ensures (entries kept) c.digest-hash.ensures is.top is.nodes is.fit)

pub returns-in_ok-value-in-Some : goal.returns-in_ok-value-in-Some
returns-in_ok-value-in-Some g c = λ kept is.
    let there = there_under kept c.args.key.now c.in-Some.spelling.now _ is.fit (ap (option_map (λ s. s.now)) c.in-Some.is) (c.in_ok-find_under.ensures (entries kept) c.digest-hash.ensures is.top is.nodes is.fit) in
    ap Some (c.in_ok-value-in-Some.ensures there.0 there.2 there.3) ∙ sym there.1
