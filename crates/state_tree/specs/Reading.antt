-- The actors of the state under a root, or its first fault: of the root's block, of its version, of the actors' tree, of
-- an actor that every state has.
use Rattle.std.specs.Prelude.{ℕ, ◌^◌, ◌==◌, ◌%◌, ◌&&◌, Bool, false, List, [], ◌∷◌, bytes_eq, map, nat_lt, reverse, if◌then◌else◌}
use Rattle.std.specs.FinMap.{entries, from_entries, get}
use Rattle.std.specs.Int.Digits.{number_from_digits}
use Rattle.std.specs.declared.option.Option.{Option}
use Rattle.std.specs.declared.option.Option.TheVariants.{None, Some}
use Rattle.std.specs.declared.result.Result.{Result}
use Rattle.std.specs.declared.result.Result.TheVariants.{Ok, Err}
use Rattle.fil_base.specs.CidEquality.{same_parts}
use Rattle.fil_base.specs.CidParts.{CidParts}
use Rattle.fil_base.specs.Varint.{varint}
use Rattle.cid_core.specs.BlockParts.{BlockParts, found}
use Rattle.dag_cbor.specs.Reading.{whole_at}
use Rattle.dag_cbor.specs.declared.value.Value.{Value}
use Rattle.cbor_fields.specs.Fields.{field}
use Rattle.cbor_fields.specs.Readers.{cid_of, list_of, token_of, u64_of}
use Rattle.gas_prices.specs.declared.rules.Codes.{Codes}
use Rattle.hamt_map.specs.Pairs.{Map}
use Rattle.hamt_map.specs.StateFaults.{given, if_state, of_tree, value_under}
use Rattle.hamt_map.specs.Walk.{hamt_at}
use Rattle.hamt_map.specs.declared.state_fault.StateFault.{StateFault}
use Rattle.hamt_map.specs.declared.state_fault.StateFault.TheVariants.{Missing, Form, Version, Actor as NoActor}
use Rattle.tree_blocks.specs.Forms.{for_each, if_some}
use Rattle.state_tree.specs.Actors.{Actors}
use Rattle.state_tree.specs.declared.actor.Actor.{Actor}
use Rattle.state_tree.specs.declared.root.RootLinks.{RootLinks}

-- the number of groups of seven bits, if this is its one spelling and it is below 2^63
abbrev pub id_of_groups : List ℕ → Option ℕ
id_of_groups groups = if nat_lt id (2 ^ 63) && bytes_eq groups (varint id) then Some id else None where
  id : ℕ
  id = number_from_digits 128 (reverse (map (λ byte. byte % 128) groups))

-- the ID whose key this is
abbrev pub id_in : List ℕ → Option ℕ
id_in [] = None
id_in (protocol ∷ groups) = if protocol == 0 then id_of_groups groups else None

-- the actor whose record a value is
unfoldable pub actor_in : Value → Option Actor
actor_in value =
    if_some (given (list_of value 4)) (λ items.
    if_some (given (field cid_of items 0)) (λ code. if_some (given (field cid_of items 1)) (λ head.
    if_some (given (field u64_of items 2)) (λ sequence. if_some (given (field token_of items 3)) (λ balance.
    Some (record { code = code; head = head; sequence = sequence; balance = balance }))))))

-- a key with its record
abbrev pub pair_in : List ℕ × Value → Option (ℕ × Actor)
pair_in pair = if_some (id_in pair.0) (λ id. if_some (actor_in pair.1) (λ actor. Some (id, actor)))

-- the actors whose records these are, if each pair is a key with its record
abbrev pub actors_in : Map → Option Actors
actors_in m = if_some (for_each pair_in (entries m)) (λ pairs. Some (from_entries pairs))

-- the actors of a tree; a pair that is no key with its record is a fault of the tree's form
abbrev pub actors_under : List BlockParts → CidParts → Result Actors StateFault
actors_under blocks root = if_state (of_tree (hamt_at blocks root)) (λ m. in_form (actors_in m)) where
  in_form : Option Actors → Result Actors StateFault
  in_form None = Err (Form root)
  in_form (Some actors) = Ok actors

-- an actor has this code
abbrev pub has_code : Option Actor → CidParts → Bool
has_code None code = false
has_code (Some actor) code = same_parts actor.code code

-- the first of the actors that every state has that is missing or has another code
abbrev pub with_own_actors : Codes → Actors → Result Actors StateFault
with_own_actors codes actors =
    if has_code (get actors 1) codes.init then (if has_code (get actors 2) codes.reward then
    (if has_code (get actors 99) codes.account then Ok actors else Err (NoActor 99)) else Err (NoActor 2)) else Err (NoActor 1)

-- the two links of a root
abbrev pub links_in : List Value → Option RootLinks
links_in items =
    if_some (given (field cid_of items 1)) (λ actors. if_some (given (field cid_of items 2)) (λ info.
    Some (record { actors = actors; info = info })))

-- the links of a root of version 4
abbrev pub root_links : CidParts → Value → Result RootLinks StateFault
root_links root value = of_items (given (list_of value 3)) where
  of_links : Option RootLinks → Result RootLinks StateFault
  of_links None = Err (Form root)
  of_links (Some links) = Ok links

  of_version : List Value → Option ℕ → Result RootLinks StateFault
  of_version items None = Err (Form root)
  of_version items (Some version) = if version == 4 then of_links (links_in items) else Err (Version version)

  of_items : Option (List Value) → Result RootLinks StateFault
  of_items None = Err (Form root)
  of_items (Some items) = of_version items (given (field u64_of items 0))

-- the actors of the state under a root, and the link that its root keeps
unfoldable pub actors_at : List BlockParts → CidParts → Codes → Result (Actors × CidParts) StateFault
actors_at blocks root codes =
    if_state (value_under blocks root) (λ value. if_state (root_links root value) (λ links.
    if_state (actors_under blocks links.actors) (λ all. if_state (with_own_actors codes all) (λ actors. Ok (actors, links.info)))))
