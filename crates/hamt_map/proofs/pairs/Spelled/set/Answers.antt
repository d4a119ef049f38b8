use Rattle.std.proofs.Common.{◌∙◌}
use Rattle.dag_cbor.specs.Spelling.{spelled}
use Rattle.hamt_map.proofs.Depths.{four_deeper}
use Rattle.hamt_map.proofs.Held.{Holds-insert}
use Rattle.hamt_map.proofs.PutAgain.{given_is}
use Rattle.hamt_map.proofs.pairs.Spelled.set.Goals as goal

pub encode-requires : goal.encode-requires
encode-requires c = four_deeper 124 c.args.value.now c.requires.plain

pub put-requires : goal.put-requires
put-requires c = record { value = c.args.value.now; plain = c.requires.plain; same = c.into_vec.ensures ∙ c.in_ok-spelling.ensures }

pub returns-clause-after : goal.returns-clause-after
returns-clause-after c = λ m held.
    Holds-insert c.args.self.now c.put.new.self m c.args.key.now c.args.value.now held c.requires.plain
    (given_is c.args.key.now c.in_ok-owned.owned.items (spelled c.args.value.now) c.into_vec.result.items c.args.self.now c.put.new.self c.in_ok-put.ensures.after c.in_ok-owned.ensures.items (c.into_vec.ensures ∙ c.in_ok-spelling.ensures))
