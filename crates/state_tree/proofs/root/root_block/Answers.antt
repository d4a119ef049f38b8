use Rattle.std.proofs.Common.{◌≡◌, List, [], ◌∷◌, pos, refl, subst, sym, rules}
use Rattle.dag_cbor.specs.Plain.{IsPlain}
use Rattle.dag_cbor.specs.declared.value.Value.{Value}
use Rattle.dag_cbor.specs.declared.value.Value.TheVariants as v
use Rattle.state_tree.proofs.PlainRecord.{plain_root}
use Rattle.state_tree.proofs.root.root_block.Goals as goal

pub encode-requires : goal.encode-requires
encode-requires c =
    let made : v.List c.from_vec.result ≡ v.List (v.Int (pos 4) ∷ v.Link c.args.actors ∷ v.Link c.args.info.now ∷ []) = search rules in
    subst (λ (value : Value). IsPlain 128 value) (sym made) (plain_root 4 c.args.actors c.args.info.now refl c.version.ensures.cid c.version-2.ensures.cid)
