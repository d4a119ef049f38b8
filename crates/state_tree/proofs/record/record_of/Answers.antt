use Rattle.std.proofs.Common.{◌≡◌, ◌^◌, ◌<◌, subst, sym, rules}
use Rattle.dag_cbor.specs.Plain.{IsPlain}
use Rattle.dag_cbor.specs.declared.value.Value.{Value}
use Rattle.dag_cbor.specs.declared.value.Value.TheVariants as v
use Rattle.state_tree.specs.Actors.{actor_record}
use Rattle.state_tree.proofs.PlainRecord.{plain_record}
use Rattle.state_tree.proofs.record.record_of.Goals as goal

pub returns-clause-plain : goal.returns-clause-plain
returns-clause-plain c =
    let a = c.args.actor in
    let small : a.sequence < 2 ^ 64 = search rules in
    let made : v.List c.from_vec.result ≡ actor_record a = search rules in
    subst (λ (value : Value). IsPlain 120 value) (sym made)
    (plain_record a (record { code = c.version.ensures.cid; head = c.version-2.ensures.cid; sequence = small; balance = c.number.ensures.range }))
