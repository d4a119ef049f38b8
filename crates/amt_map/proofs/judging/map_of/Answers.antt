use Rattle.std.proofs.Common.{sym, ◌∙◌}
use Rattle.std.proofs.lemmas.List.{nil_from_length}
use Rattle.amt_map.proofs.MapOf.{last_left, last_spelling, map_more, map_end}
use Rattle.amt_map.proofs.judging.map_of.Goals as goal

pub insert_spelling-requires-clause-index : goal.insert_spelling-requires-clause-index
insert_spelling-requires-clause-index c =
    (last_left c.requires.0 c.loop-index.pairs.items c.pop.new.self.items c.loop-index.map c.in-Some.index c.in-Some.spelling c.in-Some.ensures.items (c.loop-index.invariant c.requires.0 c.requires.1)).small

pub insert_spelling-requires-clause-spelling : goal.insert_spelling-requires-clause-spelling
insert_spelling-requires-clause-spelling c =
    last_spelling c.requires.0 c.pop.new.self.items c.loop-index.map c.in-Some.index c.in-Some.spelling.items
    (last_left c.requires.0 c.loop-index.pairs.items c.pop.new.self.items c.loop-index.map c.in-Some.index c.in-Some.spelling c.in-Some.ensures.items (c.loop-index.invariant c.requires.0 c.requires.1))

pub loop-index-preserved : goal.loop-index-preserved
loop-index-preserved c = λ those are.
    let last = last_left those c.loop-index.pairs.items c.pop.new.self.items c.loop-index.map c.in-Some.index c.in-Some.spelling c.in-Some.ensures.items (c.loop-index.invariant those are) in
    map_more those c.pop.new.self.items c.loop-index.map c.insert_spelling.new.self c.in-Some.index c.in-Some.spelling.items last (c.in_ok-insert_spelling.ensures.after _ last.value last.holds last.plain last.text)

pub returns : goal.returns
returns c = λ those are. map_end those c.loop-index.pairs.items c.loop-index.map (nil_from_length _ (sym c.loop-index.pairs.ok.0 ∙ (rw c.in_default.is at c.pop.ensures.cases).0)) (c.loop-index.invariant those are)
