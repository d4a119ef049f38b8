use Rattle.std.proofs.Common.{[], ℕ, List, take, ap, subst, sym, ◌∙◌}
use Rattle.hamt_map.specs.Stands.{Stands}
use Rattle.std.specs.FinMap.{insert}
use Rattle.init_names.specs.Names.{AreNames, named, names_of}
use Rattle.init_names.proofs.NamedMaps.{AreNames-empty, AreNames-insert, named-empty}
use Rattle.init_names.proofs.MadeNames.{names_more}
use Rattle.init_names.proofs.names_tree.tree_of.Goals as goal

pub loop-address-init : goal.loop-address-init
loop-address-init c = record { tree = subst (Stands c.empty-tree.result []) (sym named-empty) (c.empty-tree.ensures []); names = AreNames-empty }

pub loop-address-preserved : goal.loop-address-preserved
loop-address-preserved c =
    let names = c.args.names.now in
    let at = c.loop-address.address-index in
    let item = c.loop-address-item.result in
    let more = names_more names at item c.loop-address-test.true c.loop-address-item.is c.requires.distinct in
    let key = c.as_slice.ensures ∙ c.in_ok-name.ensures.bytes in
    record {
      tree = subst (Stands c.put_id.new.tree []) (ap (λ (k : List ℕ). named (insert (names_of (take at names)) k item.1)) key ∙ ap named (sym more))
          (c.in_ok-put_id.ensures.after (names_of (take at names)) c.loop-address.invariant.tree);
      names = subst AreNames (sym more) (AreNames-insert (names_of (take at names)) _ item.1 c.loop-address.invariant.names c.in_ok-name.ensures.name c.in_ok-put_id.ensures.id);
    }
