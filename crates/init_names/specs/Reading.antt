-- The state of the init actor under a head, or its first fault: of the state's block, then of the names' tree.
use Rattle.std.specs.Prelude.{ℕ, ◌^◌, Bool, false, List, nat_lt, if◌then◌else◌}
use Rattle.std.specs.FinMap.{entries, from_entries}
use Rattle.std.specs.declared.option.Option.{Option}
use Rattle.std.specs.declared.option.Option.TheVariants.{None, Some}
use Rattle.std.specs.declared.result.Result.{Result}
use Rattle.std.specs.declared.result.Result.TheVariants.{Ok, Err}
use Rattle.fil_base.specs.CidParts.{CidParts}
use Rattle.cid_core.specs.BlockParts.{BlockParts}
use Rattle.dag_cbor.specs.declared.value.Value.{Value, Value-F, out-Value}
use Rattle.dag_cbor.specs.declared.value.Value.TheOpen as layer
use Rattle.cbor_fields.specs.Fields.{field}
use Rattle.cbor_fields.specs.Readers.{cid_of, list_of, u64_of}
use Rattle.hamt_map.specs.Pairs.{Map}
use Rattle.hamt_map.specs.StateFaults.{given, if_state, of_tree, value_under}
use Rattle.hamt_map.specs.Walk.{hamt_at}
use Rattle.hamt_map.specs.declared.state_fault.StateFault.{StateFault}
use Rattle.hamt_map.specs.declared.state_fault.StateFault.TheVariants.{Form}
use Rattle.tree_blocks.specs.Forms.{for_each, if_some}
use Rattle.std.specs.Prelude.{slice_get}
use Rattle.init_names.specs.Names.{InitState, Names, is_name}

-- a number below 2^63
abbrev pub below_limit : ℕ → Option ℕ
below_limit n = if nat_lt n (2 ^ 63) then Some n else None

-- the ID that a value is
abbrev pub id_in : Value → Option ℕ
id_in value = if_some (given (u64_of value)) below_limit

-- whether there is an ID, and below this one
abbrev pub is_below : ℕ → Option ℕ → Bool
is_below next None = false
is_below next (Some id) = nat_lt id next

-- a name with its ID
abbrev pub pair_in : List ℕ × Value → Option (List ℕ × ℕ)
pair_in pair = if is_name pair.0 then if_some (id_in pair.1) (λ id. Some (pair.0, id)) else None

-- the names whose IDs these are, if each pair is a name with its ID
abbrev pub names_in : Map → Option Names
names_in m = if_some (for_each pair_in (entries m)) (λ pairs. Some (from_entries pairs))

-- the names of a tree; a pair that is no name with its ID is a fault of the tree's form
abbrev pub names_under : List BlockParts → CidParts → Result Names StateFault
names_under blocks root = if_state (of_tree (hamt_at blocks root)) (λ m. in_form (names_in m)) where
  in_form : Option Names → Result Names StateFault
  in_form None = Err (Form root)
  in_form (Some names) = Ok names

-- a text
abbrev pub text_layer : Value-F Value → Option (List ℕ)
text_layer layer.Null = None
text_layer (layer.Bool b) = None
text_layer (layer.Int n) = None
text_layer (layer.Blob bytes) = None
text_layer (layer.Text text) = Some text
text_layer (layer.List items) = None
text_layer (layer.Map pairs) = None
text_layer (layer.Link cid) = None

-- a value as a text
abbrev pub text_in : Value → Option (List ℕ)
text_in value = text_layer (out-Value value)

-- what the block of the state has
pub record InitParts : Type 0 where
  pub names : CidParts
  pub next : ℕ
  pub network : List ℕ

abbrev pub parts_in : Value → Option InitParts
parts_in value =
    if_some (given (list_of value 3)) (λ items. if_some (given (field cid_of items 0)) (λ names.
    if_some (if_some (slice_get items 1) id_in) (λ next. if_some (if_some (slice_get items 2) text_in) (λ network.
    Some (record { names = names; next = next; network = network })))))

-- the state under a head
unfoldable pub init_at : List BlockParts → CidParts → Result InitState StateFault
init_at blocks head = if_state (value_under blocks head) (λ value. of_parts (parts_in value)) where
  of_parts : Option InitParts → Result InitState StateFault
  of_parts None = Err (Form head)
  of_parts (Some parts) =
      if_state (names_under blocks parts.names) (λ names. Ok (record { names = names; next = parts.next; network = parts.network }))
