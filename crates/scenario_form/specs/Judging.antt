-- The limits of a scenario, its codes, and the states of its tipsets.
use Rattle.std.specs.Prelude.{ℕ, ◌+◌, ◌==◌, ◌||◌, not, Bool, List, [], ◌∷◌, length, nat_lt, if◌then◌else◌}
use Rattle.std.specs.List.{list_any}
use Rattle.std.specs.declared.option.Option.{Option}
use Rattle.std.specs.declared.option.Option.TheVariants.{None, Some}
use Rattle.std.specs.declared.result.Result.{Result}
use Rattle.std.specs.declared.result.Result.TheVariants.{Ok, Err}
use Rattle.cid_core.specs.BlockParts.{BlockParts}
use Rattle.gas_prices.specs.declared.rules.Codes.{Codes}
use Rattle.fil_message.specs.Layout.{message_spelling}
use Rattle.fil_message.specs.Tipsets.{awards}
use Rattle.fil_message.specs.declared.message.Message.{Message}
use Rattle.fil_message.specs.declared.tipset.Tipset.{Tipset}
use Rattle.hamt_map.specs.declared.state_fault.StateFault.{StateFault}
use Rattle.state_model.specs.State.{State, all_below_next, has_room_for}
use Rattle.state_model.specs.StateAt.{state_at}
use Rattle.scenario_form.specs.declared.raw.RawScenario.{RawScenario}
use Rattle.scenario_form.specs.declared.fault.ScenarioFault.{ScenarioFault}
use Rattle.scenario_form.specs.declared.fault.ScenarioFault.TheVariants.{State as BadState, Next, Total}

-- a number is outside of 1 and a greatest one
abbrev pub is_outside : ℕ → ℕ → Bool
is_outside n greatest = n == 0 || nat_lt greatest n

-- a block has too many messages, or a tipset too many blocks
abbrev pub has_long_block : Tipset → Bool
has_long_block t = list_any (λ b. nat_lt 10000 (length b.messages)) t.blocks

-- the encoding of a message is too long
abbrev pub is_long : Message → Bool
is_long m = nat_lt 1048576 (length (message_spelling m))

abbrev pub has_long_message : Tipset → Bool
has_long_message t = list_any (λ b. list_any is_long b.messages) t.blocks

-- the least number of a limit that is exceeded: 0 the depth of calls, 1 to 64; 1 the pages, 1 to 512; 2 at most 1,024
-- tipsets; 3 at most 256 blocks of each; 4 at most 10,000 messages of each block; 5 at most 1,048,576 bytes of each message
abbrev pub exceeded_limit : RawScenario → Option ℕ
exceeded_limit s =
    if is_outside s.rules.depth 64 then Some 0 else (if is_outside s.rules.pages 512 then Some 1
    else (if nat_lt 1024 (length s.tipsets) then Some 2
    else (if list_any (λ t. nat_lt 256 (length t.blocks)) s.tipsets then Some 3
    else (if list_any has_long_block s.tipsets then Some 4
    else (if list_any has_long_message s.tipsets then Some 5 else None)))))

-- a tipset's state loads, IDs are below its next one, and balances and awards are not above the greatest amount; else the
-- first of these that does not hold
abbrev pub tipset_judged : List BlockParts → Codes → ℕ → Tipset → Option ScenarioFault
tipset_judged blocks codes n t = by_state (state_at blocks t.root codes) where
  by_state : Result State StateFault → Option ScenarioFault
  by_state (Err fault) = Some (BadState n fault)
  by_state (Ok s) =
      if not (all_below_next s) then Some (Next n) else (if not (has_room_for (awards t) s) then Some (Total n) else None)

-- the first fault, or what follows
abbrev pub or_else : Option ScenarioFault → Option ScenarioFault → Option ScenarioFault
or_else (Some fault) rest = Some fault
or_else None rest = rest

-- the first fault of tipsets, which are numbered from this one on
abbrev pub tipsets_judged : List BlockParts → Codes → ℕ → List Tipset → Option ScenarioFault
tipsets_judged blocks codes n [] = None
tipsets_judged blocks codes n (t ∷ ts) = or_else (tipset_judged blocks codes n t) (tipsets_judged blocks codes (n + 1) ts)
