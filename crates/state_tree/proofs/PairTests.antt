-- Tests of pairs.
use Rattle.std.proofs.Common.{◌≡◌, ℕ, ◌+◌, ◌<◌, List, [], ◌∷◌, ◌++◌, Bool, true, false, length, take, get_or, Option, Some, None, refl, sym, ap, subst, ◌∙◌, arith}
use Rattle.std.proofs.lemmas.List.Elements.{All-nil, All-push}
use Rattle.std.specs.Prelude.{All, IfSome, is_some}
use Rattle.dag_cbor.specs.declared.value.Value.{Value}
use Rattle.hamt_map.specs.Pairs.{Pairs}
use Rattle.tree_blocks.specs.Forms.{for_each}
use Rattle.tree_blocks.proofs.ForEach.{for_each_more, for_each_none}
use Rattle.state_tree.specs.Actors.{IsActor, IsEntry}
use Rattle.state_tree.specs.ActorPairs.{IfPair, IfPairs}
use Rattle.state_tree.specs.Reading.{actor_in, id_in, pair_in}
use Rattle.state_tree.specs.declared.actor.Actor.{Actor}
use Rattle.state_tree.proofs.Keys.{the_id_is_small}

-- a key of an ID, and what its value is
pub key_and_record : (key : List ℕ) (value : Value) (o : Option ℕ) (a : Option Actor) (b : Bool) → id_in key ≡ o → actor_in value ≡ a → is_some o ≡ true → b ≡ is_some a → IfSome a IsActor → IfPair b (key, value)
key_and_record key value None a b key-is value-is there is are = absurd (cc)
key_and_record key value (Some id) None true key-is value-is there is are = absurd (cc)
key_and_record key value (Some id) None false key-is value-is there is are = rw (key-is, value-is) refl
key_and_record key value (Some id) (Some actor) true key-is value-is there is are = ((id, actor), rw (key-is, value-is) refl, (the_id_is_small key id key-is, are))
key_and_record key value (Some id) (Some actor) false key-is value-is there is are = absurd (cc)

pub no_pairs : IfPairs true []
no_pairs = ([], refl, All-nil IsEntry)

pub pairs_more : (ps : Pairs) (i : ℕ) (p : List ℕ × Value) (b : Bool) → i < length ps → p ≡ get_or ps i p → IfPair b p → b ≡ true → IfPairs true (take i ps) → IfPairs true (take (i + 1) ps)
pairs_more ps i p true within is here yes_it_is (es, read, are) = (es ++ here.0 ∷ [], for_each_more pair_in ps i p here.0 es within is here.1 read, All-push IsEntry es here.0 are here.2)
pairs_more ps i p false within is here yes_it_is before = absurd (cc)

pub one_is_no_pair : (ps : Pairs) (i : ℕ) (p : List ℕ × Value) (b : Bool) → i < length ps → p ≡ get_or ps i p → IfPair b p → b ≡ false → for_each pair_in ps ≡ None
one_is_no_pair ps i p true within is here no_it_is = absurd (cc)
one_is_no_pair ps i p false within is here no_it_is = for_each_none pair_in ps i p within is here
