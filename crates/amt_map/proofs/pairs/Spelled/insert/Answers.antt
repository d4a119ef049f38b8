use Rattle.std.proofs.Common.{◌∙◌, Some, None, ap, refl, sym}
use Rattle.dag_cbor.specs.Spelling.{spelled}
use Rattle.amt_map.proofs.Depths.{three_deeper}
use Rattle.amt_map.proofs.Held.{Holds-insert, found-Holds, missing-Holds, same_value}
use Rattle.amt_map.proofs.PutAgain.{given_is, old_is, put_again}
use Rattle.amt_map.proofs.pairs.Spelled.insert.Goals as goal

pub encode-requires : goal.encode-requires
encode-requires c = three_deeper 125 c.args.value.now c.requires.plain

pub put-requires : goal.put-requires
put-requires c = record { index = c.requires.index; spelling = record { value = c.args.value.now; plain = c.requires.plain; same = c.into_vec.ensures ∙ c.in_ok-spelling.ensures } }

pub returns-in_default-clause-old : goal.returns-in_default-clause-old
returns-in_default-clause-old c = λ m held. missing-Holds c.args.self.now m c.args.index held (old_is c.args.index c.args.index c.args.self.now _ None c.in_ok-old.ensures.old refl c.in_default.is)

pub returns-in_default-clause-after : goal.returns-in_default-clause-after
returns-in_default-clause-after c = λ m held.
    Holds-insert c.args.self.now c.put.new.self m c.args.index c.args.value.now held c.requires.index c.requires.plain
    (given_is c.args.index c.args.index (spelled c.args.value.now) c.into_vec.result.items c.args.self.now c.put.new.self c.in_ok-old.ensures.after refl (c.into_vec.ensures ∙ c.in_ok-spelling.ensures))

pub returns-in-Ok-clause-old : goal.returns-in-Ok-clause-old
returns-in-Ok-clause-old c = λ m held.
    let found = old_is c.args.index c.args.index c.args.self.now _ (Some c.in-Some.old) c.in_ok-old.ensures.old refl c.in-Some.is in
    let there = found-Holds c.args.self.now m c.args.index c.in-Some.old.items held found in
    let same = same_value 125 c.as_slice.result.now c.in-Ok.value there.0 c.in-Ok.ensures.plain c.in-Ok.ensures.value there.2 (c.as_slice.ensures.value ∙ there.3) in
    ap Some same ∙ sym there.1

pub returns-in-Ok-clause-after : goal.returns-in-Ok-clause-after
returns-in-Ok-clause-after c = λ m held.
    Holds-insert c.args.self.now c.put.new.self m c.args.index c.args.value.now held c.requires.index c.requires.plain
    (given_is c.args.index c.args.index (spelled c.args.value.now) c.into_vec.result.items c.args.self.now c.put.new.self c.in_ok-old.ensures.after refl (c.into_vec.ensures ∙ c.in_ok-spelling.ensures))

pub returns-in-Err-clause-unchanged : goal.returns-in-Err-clause-unchanged
returns-in-Err-clause-unchanged c =
    put_again c.args.index c.in-Some.old.items c.into_vec.result.items c.args.self.now c.put.new.self c.put_back.new.self c.in_ok-old.ensures.held.0 c.in_ok-old.ensures.held.1
    (old_is c.args.index c.args.index c.args.self.now _ (Some c.in-Some.old) c.in_ok-old.ensures.old refl c.in-Some.is) c.in_ok-old.ensures.after c.put_back.ensures
