-- A fault inside open lists and maps is the fault of the whole.
use Rattle.std.proofs.Common.{◌≡◌, ℕ, zero, suc, ◌+◌, ◌-◌, ◌<◌, List, [], ◌∷◌, ◌++◌, length, map, cond, eqb, Result, Ok, Err, Option, refl, sym, ap, subst, ◌∙◌, append_assoc, arith}
use Rattle.std.specs.List.{AllByRecursion}
use Rattle.std.proofs.lemmas.List.{append-nil}
use Rattle.dag_cbor.specs.declared.value.Value.{Value}
use Rattle.dag_cbor.specs.declared.fault.Flaw.{Flaw}
use Rattle.dag_cbor.specs.declared.fault.CborKind.TheVariants as kinds
use Rattle.dag_cbor.specs.declared.head.Head.{Head}
use Rattle.dag_cbor.specs.declared.token.Token.TheVariants as tokens
use Rattle.dag_cbor.specs.declared.decoding.TheConstants.{MAX_DEPTH}
use Rattle.dag_cbor.specs.Spelling.{head, joined, spelled}
use Rattle.dag_cbor.specs.Plain.{IsPlain}
use Rattle.dag_cbor.specs.Keys.{last_key}
use Rattle.dag_cbor.specs.Reading.{◌>>=◌, flaw, within, after_last, of_key, of_link, as_cid, blob_at, text_at, head_at, key_at, link_at, link_token, token_after, token_at, listed, mapped, item_at, whole_at}
use Rattle.dag_cbor.specs.Faults.{pair_bytes, map_bytes, list_bytes, Level, in_list, in_map, level_bytes, IsOpenList, IsOpenMap, IsLevel, IsOpen, opened, Spot, item, key, content, before, IsSpot}
use Rattle.dag_cbor.proofs.Equations.{IsPlainPair, keys_of}
use Rattle.dag_cbor.proofs.Items.{Reads, ItemAgain, RiseBehind, rise_less, last_key-push, some_depth, opened_again, item_again}
use Rattle.dag_cbor.proofs.Tokens.{token_again, key_again, never_tag, never_simple}
use Rattle.dag_cbor.proofs.Stack.{no_token}

listed_skips : (d : ℕ) (read : Reads) (again : ItemAgain d read) (done vs : List Value) (n : ℕ) (rest : List ℕ) → AllByRecursion (IsPlain d) vs
    → listed read done (length vs + n) (joined (map spelled vs) ++ rest) ≡ listed read (done ++ vs) n rest
unfolding listed
listed_skips d read again done [] n rest plain =
    let none : 0 + n ≡ n = omega arith in
    ap (λ (m : ℕ). listed read done m rest) none ∙ ap (λ (vs : List Value). listed read vs n rest) (sym (append-nil done))
listed_skips d read again done (x ∷ vs) n rest plain =
    let more : suc (length vs) + n ≡ suc (length vs + n) = omega arith in
    let parts : (spelled x ++ joined (map spelled vs)) ++ rest ≡ spelled x ++ (joined (map spelled vs) ++ rest) = append_assoc (spelled x) (joined (map spelled vs)) rest in
    ap (λ (m : ℕ). listed read done m ((spelled x ++ joined (map spelled vs)) ++ rest)) more
    ∙ ap (listed read done (suc (length vs + n))) parts
    ∙ ap (λ (r : Result (Value × List ℕ) Flaw). r >>= λ y. listed read (done ++ y.0 ∷ []) (length vs + n) y.1) (again x (joined (map spelled vs) ++ rest) plain.0)
    ∙ listed_skips d read again (done ++ x ∷ []) vs n rest plain.1
    ∙ ap (λ (all : List Value). listed read all n rest) (append_assoc done (x ∷ []) vs)

mapped_skips : (d : ℕ) (read : Reads) (again : ItemAgain d read) (done ps : List (List ℕ × Value)) (n : ℕ) (rest : List ℕ) → RiseBehind (last_key done) (keys_of ps) → AllByRecursion (IsPlainPair d) ps
    → mapped d read done (length ps + n) (joined (map pair_bytes ps) ++ rest) ≡ mapped d read (done ++ ps) n rest
unfolding mapped
mapped_skips d read again done [] n rest rise plain =
    let none : 0 + n ≡ n = omega arith in
    ap (λ (m : ℕ). mapped d read done m rest) none ∙ ap (λ (ps : List (List ℕ × Value)). mapped d read ps n rest) (sym (append-nil done))
mapped_skips d read again done (p ∷ ps) n rest rise plain =
    let inner : List ℕ = joined (map pair_bytes ps) in
    let more : suc (length ps) + n ≡ suc (length ps + n) = omega arith in
    let parts : (pair_bytes p ++ inner) ++ rest ≡ (head 3 (length p.0) ++ p.0) ++ (spelled p.1 ++ (inner ++ rest)) = simp append_assoc in
    let less = rise_less (last_key done) p.0 (keys_of ps) rise in
    let next : RiseBehind (last_key (done ++ p ∷ [])) (keys_of ps) = subst (λ (o : Option (List ℕ)). RiseBehind o (keys_of ps)) (sym (last_key-push done p)) less.1 in
    ap (λ (m : ℕ). mapped d read done m ((pair_bytes p ++ inner) ++ rest)) more
    ∙ ap (mapped d read done (suc (length ps + n))) parts
    ∙ ap (λ (r : Result (List ℕ × List ℕ) Flaw). r >>= λ k. read k.1 >>= λ y. mapped d read (done ++ (k.0, y.0) ∷ []) (length ps + n) y.1) (key_again d done p.0 (spelled p.1 ++ (inner ++ rest)) (some_depth d p.1 plain.0.1) plain.0.0 less.0)
    ∙ ap (λ (r : Result (Value × List ℕ) Flaw). r >>= λ y. mapped d read (done ++ (p.0, y.0) ∷ []) (length ps + n) y.1) (again p.1 (inner ++ rest) plain.0.1)
    ∙ mapped_skips d read again (done ++ p ∷ []) ps n rest next plain.1
    ∙ ap (λ (all : List (List ℕ × Value)). mapped d read all n rest) (append_assoc done (p ∷ []) ps)

listed_fails : (read : Reads) (done : List Value) (n : ℕ) (rest : List ℕ) (at : Flaw) → 0 < n → read rest ≡ Err at → listed read done n rest ≡ Err at
unfolding listed
listed_fails read done zero rest at some e = absurd (omega arith)
listed_fails read done (suc n) rest at some e = ap (λ (r : Result (Value × List ℕ) Flaw). r >>= λ x. listed read (done ++ x.0 ∷ []) n x.1) e

mapped_fails : (d : ℕ) (read : Reads) (done : List (List ℕ × Value)) (n : ℕ) (rest : List ℕ) (at : Flaw) → 0 < n → key_at d done rest ≡ Err at → mapped d read done n rest ≡ Err at
unfolding mapped
mapped_fails d read done zero rest at some e = absurd (omega arith)
mapped_fails d read done (suc n) rest at some e = ap (λ (r : Result (List ℕ × List ℕ) Flaw). r >>= λ k. read k.1 >>= λ x. mapped d read (done ++ (k.0, x.0) ∷ []) n x.1) e

mapped_item_fails : (d : ℕ) (read : Reads) (done : List (List ℕ × Value)) (n : ℕ) (text rest after : List ℕ) (at : Flaw) → 0 < n → key_at d done rest ≡ Ok (text, after) → read after ≡ Err at → mapped d read done n rest ≡ Err at
unfolding mapped
mapped_item_fails d read done zero text rest after at some k e = absurd (omega arith)
mapped_item_fails d read done (suc n) text rest after at some k e =
    ap (λ (r : Result (List ℕ × List ℕ) Flaw). r >>= λ k. read k.1 >>= λ x. mapped d read (done ++ (k.0, x.0) ∷ []) n x.1) k ∙ ap (λ (r : Result (Value × List ℕ) Flaw). r >>= λ x. mapped d read (done ++ (text, x.0) ∷ []) n x.1) e

list_opens : (room total : ℕ) (items : List Value) (rest : List ℕ) → IsOpenList room total items → item_at (suc room) (list_bytes total items ++ rest) ≡ listed (item_at room) items (total - length items) rest
list_opens room total items rest is =
    let inner : List ℕ = joined (map spelled items) in
    let lt = is.0 in
    let count : total ≡ length items + (total - length items) = omega arith in
    ap (item_at (suc room)) (append_assoc (head 4 total) inner rest)
    ∙ opened_again room (head 4 total ++ (inner ++ rest)) (tokens.List total, inner ++ rest) (token_again (suc room) 4 total (inner ++ rest) (omega arith) is.1 (never_tag 4 _ (omega arith)) (never_simple 4 _ (omega arith)))
    ∙ ap (λ (n : ℕ). listed (item_at room) [] n (inner ++ rest)) count
    ∙ listed_skips room (item_at room) (λ x after plain. item_again room x after plain) [] items (total - length items) rest is.2

map_opens : (room total : ℕ) (pairs : List (List ℕ × Value)) (rest : List ℕ) → IsOpenMap room total pairs → item_at (suc room) (map_bytes total pairs ++ rest) ≡ mapped room (item_at room) pairs (total - length pairs) rest
map_opens room total pairs rest is =
    let inner : List ℕ = joined (map pair_bytes pairs) in
    let lt = is.0 in
    let count : total ≡ length pairs + (total - length pairs) = omega arith in
    ap (item_at (suc room)) (append_assoc (head 5 total) inner rest)
    ∙ opened_again room (head 5 total ++ (inner ++ rest)) (tokens.Map total, inner ++ rest) (token_again (suc room) 5 total (inner ++ rest) (omega arith) is.1 (never_tag 5 _ (omega arith)) (never_simple 5 _ (omega arith)))
    ∙ ap (λ (n : ℕ). mapped room (item_at room) [] n (inner ++ rest)) count
    ∙ mapped_skips room (item_at room) (λ x after plain. item_again room x after plain) [] pairs (total - length pairs) rest is.2 is.3

-- a fault in what comes next in a list or a map is the fault of the list or the map
level_fails : (room : ℕ) (level : Level) (rest : List ℕ) (at : Flaw) → IsLevel room level → item_at room rest ≡ Err at → item_at (suc room) (level_bytes level ++ rest) ≡ Err at
level_fails room (in_list total items) rest at is e = let lt = is.0 in list_opens room total items rest is ∙ listed_fails (item_at room) items (total - length items) rest at (omega arith) e
level_fails room (in_map total pairs text) rest at is e =
    let lt = is.1.0 in
    ap (item_at (suc room)) (append_assoc (map_bytes total pairs) (head 3 (length text) ++ text) rest) ∙ map_opens room total pairs ((head 3 (length text) ++ text) ++ rest) is.1
    ∙ mapped_item_fails room (item_at room) pairs (total - length pairs) text ((head 3 (length text) ++ text) ++ rest) rest at (omega arith) (key_again room pairs text rest is.0 is.2 is.3) e

key_fails : (room total : ℕ) (pairs : List (List ℕ × Value)) (rest : List ℕ) (at : Flaw) → IsOpenMap room total pairs → key_at room pairs rest ≡ Err at → item_at (suc room) (map_bytes total pairs ++ rest) ≡ Err at
key_fails room total pairs rest at is e = let lt = is.0 in map_opens room total pairs rest is ∙ mapped_fails room (item_at room) pairs (total - length pairs) rest at (omega arith) e

through : (levels : List Level) (room : ℕ) (rest : List ℕ) (at : Flaw) → IsOpen room levels → item_at room rest ≡ Err at → item_at MAX_DEPTH (opened levels ++ rest) ≡ Err at
unfolding IsOpen opened
through [] room rest at is e = ap (λ (d : ℕ). item_at d rest) (sym is) ∙ e
through (level ∷ levels) room rest at is e =
    ap (item_at MAX_DEPTH) (append_assoc (opened levels) (level_bytes level) rest) ∙ through levels (suc room) (level_bytes level ++ rest) at is.1 (level_fails room level rest at is.0 e)

whole_fails : (bytes : List ℕ) (at : Flaw) → item_at MAX_DEPTH bytes ≡ Err at → whole_at bytes ≡ Err at
unfolding whole_at
whole_fails bytes at e = ap (λ (r : Result (Value × List ℕ) Flaw). r >>= λ x. cond (eqb (length x.1) 0) (Ok x.0) (Err (flaw kinds.Trailing (length x.1)))) e

-- a fault of an item
pub item_forces : (levels : List Level) (room : ℕ) (bytes rest : List ℕ) (at : Flaw) → IsOpen room levels → bytes ≡ opened levels ++ rest → token_at room rest ≡ Err at → whole_at bytes ≡ Err at
item_forces levels room bytes rest at is parts e = whole_fails bytes at (ap (item_at MAX_DEPTH) parts ∙ through levels room rest at is (no_token room rest at e))

-- a fault of a key
pub key_forces : (levels : List Level) (total : ℕ) (pairs : List (List ℕ × Value)) (room : ℕ) (bytes rest : List ℕ) (at : Flaw) → IsSpot room (key levels total pairs) → bytes ≡ before (key levels total pairs) ++ rest
    → key_at room pairs rest ≡ Err at → whole_at bytes ≡ Err at
key_forces levels total pairs room bytes rest at is parts e =
    whole_fails bytes at (ap (item_at MAX_DEPTH) (parts ∙ append_assoc (opened levels) (map_bytes total pairs) rest) ∙ through levels (suc room) (map_bytes total pairs ++ rest) at is.0 (key_fails room total pairs rest at is.1 e))

-- a fault of a link behind its tag
pub link_forces : (levels : List Level) (room : ℕ) (bytes rest : List ℕ) (at : Flaw) → IsOpen (suc room) levels → bytes ≡ opened levels ++ (head 6 42 ++ rest) → link_at (length (head 6 42 ++ rest)) rest ≡ Err at → whole_at bytes ≡ Err at
link_forces levels room bytes rest at is parts e =
    item_forces levels (suc room) bytes (head 6 42 ++ rest) at is parts
    (token_again (suc room) 6 42 rest (omega arith) (omega arith) (λ e. refl) (never_simple 6 _ (omega arith)) ∙ ap (λ r. r >>= link_token) e)

-- a fault of a head
pub head_forces : (spot : Spot) (room : ℕ) (bytes rest : List ℕ) (at : Flaw) → IsSpot room spot → bytes ≡ before spot ++ rest → head_at rest ≡ Err at → whole_at bytes ≡ Err at
unfolding token_at key_at link_at
head_forces (item levels) room bytes rest at is parts e =
    item_forces levels room bytes rest at is parts (ap (λ (r : Result (Head × List ℕ) Flaw). r >>= within room (length rest) >>= token_after (length rest)) e)
head_forces (key levels total pairs) room bytes rest at is parts e =
    key_forces levels total pairs room bytes rest at is parts (ap (λ (r : Result (Head × List ℕ) Flaw). r >>= of_key room (length rest) >>= (λ h. text_at (length rest) h.0.number h.1) >>= after_last (last_key pairs) (length rest)) e)
head_forces (content levels) room bytes rest at is parts e =
    link_forces levels room bytes rest at is (parts ∙ append_assoc (opened levels) (head 6 42) rest) (ap (λ (r : Result (Head × List ℕ) Flaw). r >>= of_link (length (head 6 42 ++ rest)) >>= λ h. blob_at h.0.number h.1 >>= as_cid (length (head 6 42 ++ rest))) e)
