-- A state whose blocks are all held is loaded as it was flushed.
use Rattle.std.proofs.Common.{◌≡◌, ℕ, ◌<◌, ◌^◌, Bool, true, false, cond, List, [], ◌∷◌, ◌++◌, length, pos, Option, Some, None, Result, Ok, Err, All, refl, sym, ap, subst, ◌∙◌, lit<, arith}
use Rattle.std.proofs.lemmas.List.Elements.{All-head}
use Rattle.std.specs.FinMap.{entries, get}
use Rattle.fil_base.specs.CidParts.{CidParts, IsCid}
use Rattle.cid_core.proofs.Digests.{IsCid-cid_of}
use Rattle.cid_core.specs.BlockParts.{BlockParts, block_of, found}
use Rattle.dag_cbor.specs.Plain.{IsPlain}
use Rattle.dag_cbor.specs.Spelling.{spelled}
use Rattle.dag_cbor.specs.declared.value.Value.{Value}
use Rattle.dag_cbor.specs.declared.value.Value.TheVariants as v
use Rattle.dag_cbor.proofs.Equations.{IsPlain-Link, IsPlain-List, IsPlain-Text, IsPlain-pos}
use Rattle.dag_cbor.proofs.Whole.{whole_again}
use Rattle.cbor_fields.specs.Readers.{list_of}
use Rattle.cbor_fields.proofs.ReadBack.{read_cid, read_list, read_number}
use Rattle.gas_prices.specs.declared.rules.Codes.{Codes}
use Rattle.hamt_map.specs.Node.{hamt_nodes, hamt_root, node}
use Rattle.hamt_map.specs.StateFaults.{if_state, value_under}
use Rattle.hamt_map.specs.Walk.{hamt_at}
use Rattle.hamt_map.specs.declared.state_fault.StateFault.{StateFault}
use Rattle.hamt_map.specs.declared.state_fault.StateFault.TheVariants.{Actor as NoActor}
use Rattle.hamt_map.proofs.LoadedAgain.{IsHeld, loaded_again}
use Rattle.hamt_map.proofs.Merging.{all_back, all_front}
use Rattle.init_names.specs.Names.{InitState, IsInitState, init_block, init_head, init_nodes, named, parts_value}
use Rattle.init_names.specs.Reading.{init_at, names_under, parts_in}
use Rattle.init_names.proofs.IdValues.{id_read}
use Rattle.state_tree.specs.Actors.{Actors, AreActors, records}
use Rattle.state_tree.specs.ActorsTree.{actors_nodes, actors_root, root_block, root_value}
use Rattle.state_tree.specs.Reading.{actors_at, actors_under, has_code, root_links, with_own_actors}
use Rattle.state_tree.specs.declared.actor.Actor.{Actor}
use Rattle.state_tree.proofs.LoadSteps.{all_read}
use Rattle.state_tree.proofs.PlainRecord.{plain_root}
use Rattle.state_model.specs.State.{HaveCount, IsState, State, flushed, init_of, state_nodes, state_root, with_init_head}
use Rattle.state_model.specs.StateAt.{init_under, opened, state_at}
use Rattle.state_model.proofs.InitHead.{actors_are_few, are_actors, burnt_is_same, headed, init_has_head, reward_is_same}
use Rattle.state_model.proofs.NamesAgain.{names_fit, names_read}
use Rattle.state_model.proofs.RecordsAgain.{records_fit, records_read}

-- ---- a block

-- the value that a held block spells
value_again : (blocks : List BlockParts) (value : Value) → IsPlain 128 value → IsHeld blocks (block_of 0x71 (spelled value)) → value_under blocks (block_of 0x71 (spelled value)).cid ≡ Ok value
value_again blocks value plain held =
    let is : found blocks (block_of 0x71 (spelled value)).cid ≡ Some (block_of 0x71 (spelled value)) = held in
    rw (is, whole_again value plain) refl

-- the last of held blocks is held
last_held : (blocks front : List BlockParts) (b : BlockParts) → All (IsHeld blocks) (front ++ b ∷ []) → IsHeld blocks b
last_held blocks front b held = All-head (IsHeld blocks) b [] (all_back (IsHeld blocks) front (b ∷ []) held)

-- ---- the actors

root_again : (root actors info : CidParts) → root_links root (v.List (v.Int (pos 4) ∷ v.Link actors ∷ v.Link info ∷ [])) ≡ Ok (record { actors = actors; info = info })
root_again root actors info =
    let items : List Value = v.Int (pos 4) ∷ v.Link actors ∷ v.Link info ∷ [] in
    let read : list_of (v.List items) 3 ≡ Ok items = read_list items in
    rw (read, read_number 4 (lit< tt), read_cid actors, read_cid info) refl

actors_again : (blocks : List BlockParts) (actors : Actors) → AreActors actors → length (entries actors) < 2 ^ 64 → All (IsHeld blocks) (hamt_nodes (records actors))
    → actors_under blocks (hamt_root (records actors)) ≡ Ok actors
actors_again blocks actors are few held =
    let tree : hamt_at blocks (hamt_root (records actors)) ≡ Ok (records actors) = loaded_again blocks 50 (records actors) (records_fit actors are few) held in
    rw (tree, records_read actors are) refl

root_is_plain : (actors : Actors) (info : CidParts) → IsCid info → IsPlain 128 (root_value actors info)
root_is_plain actors info is = plain_root 4 (hamt_root (records actors)) info refl (IsCid-cid_of 0x71 (spelled (node 50 (entries (records actors)))) (lit< tt)) is

tree_again : (blocks : List BlockParts) (actors : Actors) (info : CidParts) (codes : Codes) → AreActors actors → length (entries actors) < 2 ^ 64 → IsCid info → with_own_actors codes actors ≡ Ok actors
    → All (IsHeld blocks) (actors_nodes actors info) → actors_at blocks (actors_root actors info) codes ≡ Ok (actors, info)
tree_again blocks actors info codes are few is own held =
    let root = last_held blocks (hamt_nodes (records actors)) (root_block actors info) held in
    let value = value_again blocks (root_value actors info) (root_is_plain actors info is) root in
    let links : if_state (value_under blocks (actors_root actors info)) (root_links (actors_root actors info)) ≡ Ok (record { actors = hamt_root (records actors); info = info }) =
    ap (λ (r : Result Value StateFault). if_state r (root_links (actors_root actors info))) value ∙ root_again (actors_root actors info) (hamt_root (records actors)) info in
    let nodes = all_front (IsHeld blocks) (hamt_nodes (records actors)) (root_block actors info ∷ []) held in
    all_read blocks (actors_root actors info) codes (record { actors = hamt_root (records actors); info = info }) actors links (actors_again blocks actors are few nodes) own

-- ---- the init actor's state

parts_are_plain : (s : InitState) → IsInitState s → IsPlain 128 (parts_value (hamt_root (named s.names)) s.next s.network)
parts_are_plain s is =
    let names : IsPlain 127 (v.Link (hamt_root (named s.names))) = as_is (IsPlain-Link 126 (hamt_root (named s.names))) (IsCid-cid_of 0x71 (spelled (node 50 (entries (named s.names)))) (lit< tt)) in
    let next : IsPlain 127 (v.Int (pos s.next)) = as_is (IsPlain-pos 126 s.next) (let small = is.next in omega (arith, small)) in
    let network : IsPlain 127 (v.Text s.network) = as_is (IsPlain-Text 126 s.network) (is.length, is.network) in
    as_is (IsPlain-List 127 (v.Link (hamt_root (named s.names)) ∷ v.Int (pos s.next) ∷ v.Text s.network ∷ [])) (omega arith, (names, (next, (network, tt))))
  where
    as_is : {P Q : Type 0} → P ≡ Q → Q → P
    as_is same q = subst (λ (X : Type 0). X) (sym same) q

parts_again : (names : CidParts) (next : ℕ) (network : List ℕ) → next < 2 ^ 63 → parts_in (parts_value names next network) ≡ Some (record { names = names; next = next; network = network })
parts_again names next network small =
    let items : List Value = v.Link names ∷ v.Int (pos next) ∷ v.Text network ∷ [] in
    let read : list_of (v.List items) 3 ≡ Ok items = read_list items in
    rw (read, read_cid names, id_read next small, v.outs-Text network) refl

names_again : (blocks : List BlockParts) (s : InitState) → IsInitState s → length (entries s.names) < 2 ^ 64 → All (IsHeld blocks) (hamt_nodes (named s.names)) → names_under blocks (hamt_root (named s.names)) ≡ Ok s.names
names_again blocks s is few held =
    let tree : hamt_at blocks (hamt_root (named s.names)) ≡ Ok (named s.names) = loaded_again blocks 50 (named s.names) (names_fit s.names is.names few) held in
    rw (tree, names_read s.names is.names) refl

init_again : (blocks : List BlockParts) (s : InitState) → IsInitState s → length (entries s.names) < 2 ^ 64 → All (IsHeld blocks) (init_nodes s) → init_at blocks (init_head s) ≡ Ok s
unfolding init_at
init_again blocks s is few held =
    let block = last_held blocks (hamt_nodes (named s.names)) (init_block s) held in
    let value = value_again blocks (parts_value (hamt_root (named s.names)) s.next s.network) (parts_are_plain s is) block in
    let nodes = all_front (IsHeld blocks) (hamt_nodes (named s.names)) (init_block s ∷ []) held in
    rw (value, parts_again (hamt_root (named s.names)) s.next s.network is.next, names_again blocks s is few nodes) refl

-- ---- the actors that every state has

-- an actor that has a code is there
has_actor : (o : Option Actor) (code : CidParts) → has_code o code ≡ true → (a : Actor) × (o ≡ Some a)
has_actor None code has = absurd (cc)
has_actor (Some a) code has = (a, refl)

-- all three have their codes
three_tests : {X : Type 0} (s t u : Bool) (x : X) (e f g : StateFault) → cond s (cond t (cond u (Ok x) (Err e)) (Err f)) (Err g) ≡ Ok x → (s ≡ true) × (t ≡ true) × (u ≡ true)
three_tests true true true x e f g is = (refl, refl, refl)
three_tests true true false x e f g is = absurd (cc)
three_tests true false u x e f g is = absurd (cc)
three_tests false t u x e f g is = absurd (cc)

own_codes : (codes : Codes) (actors : Actors) → with_own_actors codes actors ≡ Ok actors
    → (has_code (get actors 1) codes.init ≡ true) × (has_code (get actors 2) codes.reward ≡ true) × (has_code (get actors 99) codes.account ≡ true)
own_codes codes actors own = three_tests (has_code (get actors 1) codes.init) (has_code (get actors 2) codes.reward) (has_code (get actors 99) codes.account) actors (NoActor 99) (NoActor 2) (NoActor 1) own

own_again : (codes : Codes) (actors : Actors) → has_code (get actors 1) codes.init ≡ true → has_code (get actors 2) codes.reward ≡ true → has_code (get actors 99) codes.account ≡ true → with_own_actors codes actors ≡ Ok actors
own_again codes actors init reward account = rw (init, reward, account) refl

-- the head of the init actor is no part of its code
own_with_head : (s : State) (codes : Codes) (init : Actor) → get s.actors 1 ≡ Some init → with_own_actors codes s.actors ≡ Ok s.actors → with_own_actors codes (with_init_head s) ≡ Ok (with_init_head s)
own_with_head s codes init there own =
    let three = own_codes codes s.actors own in
    own_again codes (with_init_head s)
    (ap (λ (o : Option Actor). has_code o codes.init) (init_has_head s init there) ∙ sym (ap (λ (o : Option Actor). has_code o codes.init) there) ∙ three.0)
    (ap (λ (o : Option Actor). has_code o codes.reward) (reward_is_same s init there) ∙ three.1)
    (ap (λ (o : Option Actor). has_code o codes.account) (burnt_is_same s init there) ∙ three.2)

-- ---- the state

-- the actors are read, and then the init actor's state
state_of_both : (blocks : List BlockParts) (root : CidParts) (codes : Codes) (actors : Actors) (info : CidParts) (init : Actor) (parts : InitState) → actors_at blocks root codes ≡ Ok (actors, info)
    → get actors 1 ≡ Some init → init_at blocks init.head ≡ Ok parts → state_at blocks root codes ≡ Ok (opened (actors, info) parts)
state_of_both blocks root codes actors info init parts read there under =
    ap (λ (r : Result (Actors × CidParts) StateFault). if_state r (λ found. if_state (init_under blocks (get found.0 1)) (λ p. Ok (opened found p)))) read
    ∙ ap (λ (o : Option Actor). if_state (init_under blocks o) (λ p. Ok (opened (actors, info) p))) there
    ∙ ap (λ (r : Result InitState StateFault). if_state r (λ p. Ok (opened (actors, info) p))) under

pub a_flushed_state_loads : (blocks : List BlockParts) (s : State) (codes : Codes) → IsState s → HaveCount s → with_own_actors codes s.actors ≡ Ok s.actors → All (IsHeld blocks) (state_nodes s)
    → state_at blocks (state_root s) codes ≡ Ok (flushed s)
a_flushed_state_loads blocks s codes is few own held =
    let three = own_codes codes s.actors own in
    let init = has_actor (get s.actors 1) codes.init three.0 in
    let actors = with_init_head s in
    let of_names = all_front (IsHeld blocks) (init_nodes (init_of s)) (actors_nodes actors s.info) held in
    let of_actors = all_back (IsHeld blocks) (init_nodes (init_of s)) (actors_nodes actors s.info) held in
    state_of_both blocks (state_root s) codes actors s.info (headed s init.0) (init_of s)
    (tree_again blocks actors s.info codes (are_actors s init.0 is init.1) (actors_are_few s init.0 few init.1) is.info (own_with_head s codes init.0 init.1 own) of_actors)
    (init_has_head s init.0 init.1)
    (init_again blocks (init_of s) is.init few.names of_names)
