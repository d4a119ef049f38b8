use Rattle.std.proofs.Common.{[], take}
use Rattle.hamt_map.specs.Stands.{Stands}
use Rattle.init_names.specs.Names.{AreNames, named, names_of}
use Rattle.init_names.proofs.names_tree.tree_of.Given as goal

abbrev pub invariant-loop-address : goal.invariant-loop-address
invariant-loop-address l = record {
  tree : Stands l.tree [] (named (names_of (take l.address-index l.names)));
  names : AreNames (names_of (take l.address-index l.names));
}
