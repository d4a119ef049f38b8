-- How deep a value is nested.
use Rattle.std.specs.Prelude.{ℕ, zero, suc, Bool, true, false}
use Rattle.std.specs.List.{list_all}
use Rattle.dag_cbor.specs.declared.value.Value.{Value, Value-F, out-Value}
use Rattle.dag_cbor.specs.declared.value.Value.TheOpen as layer

-- all items of a value have this
abbrev pub all_items : (Value → Bool) → Value-F Value → Bool
all_items has layer.Null = true
all_items has (layer.Bool b) = true
all_items has (layer.Int n) = true
all_items has (layer.Blob bytes) = true
all_items has (layer.Text bytes) = true
all_items has (layer.List items) = list_all has items
all_items has (layer.Map pairs) = list_all (λ p. has p.1) pairs
all_items has (layer.Link cid) = true

-- a value's depth is at most this: that of one without items is 1, and a list or map is one deeper than its items
unfoldable pub is_within : ℕ → Value → Bool
is_within zero value = false
is_within (suc depth) value = all_items (is_within depth) (out-Value value)
