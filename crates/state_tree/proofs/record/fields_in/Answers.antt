use Rattle.state_tree.proofs.RecordRead.{all_fields, fields_are, no_balance, no_code, no_head, no_list, no_sequence, nothing_is_actor}
use Rattle.state_tree.proofs.record.fields_in.Goals as goal

pub returns-in_default-clause-read : goal.returns-in_default-clause-read
returns-in_default-clause-read c = no_list c.args.value.now _ c.in_default.ensures.fault

pub returns-in_default-clause-actor : goal.returns-in_default-clause-actor
returns-in_default-clause-actor c = nothing_is_actor c.args.value.now (no_list c.args.value.now _ c.in_default.ensures.fault)

pub returns-in_default-cid_at-clause-read : goal.returns-in_default-cid_at-clause-read
returns-in_default-cid_at-clause-read c = no_code c.args.value.now c.in-Ok.items.now _ c.in-Ok.ensures.found c.in_default-cid_at.ensures.fault

pub returns-in_default-cid_at-clause-actor : goal.returns-in_default-cid_at-clause-actor
returns-in_default-cid_at-clause-actor c =
    nothing_is_actor c.args.value.now (no_code c.args.value.now c.in-Ok.items.now _ c.in-Ok.ensures.found c.in_default-cid_at.ensures.fault)

pub returns-in_default-cid_at-2-clause-read : goal.returns-in_default-cid_at-2-clause-read
returns-in_default-cid_at-2-clause-read c =
    no_head c.args.value.now c.in-Ok.items.now c.in-Ok-cid_at.code.now _ c.in-Ok.ensures.found c.in-Ok-cid_at.ensures.found c.in_default-cid_at-2.ensures.fault

pub returns-in_default-cid_at-2-clause-actor : goal.returns-in_default-cid_at-2-clause-actor
returns-in_default-cid_at-2-clause-actor c =
    nothing_is_actor c.args.value.now
    (no_head c.args.value.now c.in-Ok.items.now c.in-Ok-cid_at.code.now _ c.in-Ok.ensures.found c.in-Ok-cid_at.ensures.found c.in_default-cid_at-2.ensures.fault)

pub returns-in_default-u64_at-clause-read : goal.returns-in_default-u64_at-clause-read
returns-in_default-u64_at-clause-read c =
    no_sequence c.args.value.now c.in-Ok.items.now c.in-Ok-cid_at.code.now c.in-Ok-cid_at-2.head.now _ c.in-Ok.ensures.found c.in-Ok-cid_at.ensures.found c.in-Ok-cid_at-2.ensures.found c.in_default-u64_at.ensures

pub returns-in_default-u64_at-clause-actor : goal.returns-in_default-u64_at-clause-actor
returns-in_default-u64_at-clause-actor c =
    nothing_is_actor c.args.value.now
    (no_sequence c.args.value.now c.in-Ok.items.now c.in-Ok-cid_at.code.now c.in-Ok-cid_at-2.head.now _ c.in-Ok.ensures.found c.in-Ok-cid_at.ensures.found c.in-Ok-cid_at-2.ensures.found c.in_default-u64_at.ensures)

pub returns-in_default-token_at-clause-read : goal.returns-in_default-token_at-clause-read
returns-in_default-token_at-clause-read c =
    no_balance c.args.value.now c.in-Ok.items.now c.in-Ok-cid_at.code.now c.in-Ok-cid_at-2.head.now c.in-Ok-u64_at.sequence _ c.in-Ok.ensures.found c.in-Ok-cid_at.ensures.found c.in-Ok-cid_at-2.ensures.found
    c.in-Ok-u64_at.ensures c.in_default-token_at.ensures

pub returns-in_default-token_at-clause-actor : goal.returns-in_default-token_at-clause-actor
returns-in_default-token_at-clause-actor c =
    nothing_is_actor c.args.value.now
    (no_balance c.args.value.now c.in-Ok.items.now c.in-Ok-cid_at.code.now c.in-Ok-cid_at-2.head.now c.in-Ok-u64_at.sequence _ c.in-Ok.ensures.found c.in-Ok-cid_at.ensures.found c.in-Ok-cid_at-2.ensures.found
    c.in-Ok-u64_at.ensures c.in_default-token_at.ensures)

pub returns-clause-read : goal.returns-clause-read
returns-clause-read c =
    all_fields c.args.value.now c.in-Ok.items.now c.in-Ok-cid_at.code.now c.in-Ok-cid_at-2.head.now c.in-Ok-u64_at.sequence c.in-Ok-token_at.balance c.in-Ok.ensures.found c.in-Ok-cid_at.ensures.found
    c.in-Ok-cid_at-2.ensures.found c.in-Ok-u64_at.ensures c.in-Ok-token_at.ensures

pub returns-clause-actor : goal.returns-clause-actor
returns-clause-actor c =
    fields_are c.args.value.now c.in-Ok.items.now c.in-Ok-cid_at.code.now c.in-Ok-cid_at-2.head.now c.in-Ok-u64_at.sequence c.in-Ok-token_at.balance c.in-Ok.ensures.found c.in-Ok-cid_at.ensures.found
    c.in-Ok-cid_at-2.ensures.found c.in-Ok-u64_at.ensures c.in-Ok-token_at.ensures c.version.ensures.cid c.version-2.ensures.cid
