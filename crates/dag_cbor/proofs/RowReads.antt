-- A fault that bytes have is met when they are read, or one before it at the same moment.
use Rattle.std.proofs.Common.{◌≡◌, ℕ, zero, suc, ◌+◌, ◌-◌, ◌^◌, ◌<◌, ◌≤◌, Bool, true, false, cond, eqb, List, [], ◌∷◌, ◌++◌, length, drop, Result, Ok, Err, Option, Some, None, refl, sym, ap, subst, ◌∙◌, append_assoc, arith, length-append, inl, inr, ◌⊎◌}
use Rattle.std.specs.Str.{IsUtf8, is_utf8}
use Rattle.std.specs.declared.cmp.Ordering.{Ordering}
use Rattle.std.specs.declared.cmp.Ordering.TheVariants as orders
use Rattle.std.proofs.lemmas.Str.{IsUtf8-from_is_utf8}
use Rattle.std.proofs.lemmas.Bool.{cases_Bool, cases_eq, false≢true, true≢false, ne_eqb, eq-eqb, false_from_ne_true}
use Rattle.std.proofs.lemmas.List.{drop_at}
use Rattle.fil_base.specs.CidParts.{CidParts, IsCid}
use Rattle.fil_base.specs.CidBytes.{cid_bytes}
use Rattle.dag_cbor.specs.declared.value.Value.{Value}
use Rattle.dag_cbor.specs.declared.fault.Flaw.{Flaw}
use Rattle.dag_cbor.specs.declared.fault.CborKind.{CborKind}
use Rattle.dag_cbor.specs.declared.fault.CborKind.TheVariants as kinds
use Rattle.dag_cbor.specs.declared.head.RawHead.{RawHead}
use Rattle.dag_cbor.specs.declared.head.Head.{Head}
use Rattle.dag_cbor.specs.declared.decoding.TheConstants.{MAX_DEPTH}
use Rattle.dag_cbor.specs.HeadRows.{shows, head_rows, first_shown, head_fault}
use Rattle.dag_cbor.specs.Spelling.{head, spelled}
use Rattle.dag_cbor.specs.Keys.{last_key}
use Rattle.dag_cbor.specs.Reading.{◌>>=◌, flaw, unless, judged, within, in_order, after_last, of_key, of_link, as_cid, as_text, linked, blob_at, text_at, raw_head_at, head_at, key_at, link_at, text_token, token_after, token_at, item_at, whole_at}
use Rattle.dag_cbor.specs.CidReading.{cid_of}
use Rattle.dag_cbor.specs.Faults.{opened, Spot, item, key, content, before, IsSpot, IsItemSpot, HeadRow, KeyKindRow, ContentRow, LinkRow, TextRow, KeyRow, TrailingRow, Row, head_len, content_len, span, moment, rank}
use Rattle.dag_cbor.proofs.CidLaw.{cid_of-some, none_from}
use Rattle.dag_cbor.proofs.Heads.{head_again}
use Rattle.dag_cbor.proofs.Tokens.{token_again, blob_again, text_again, never_tag, never_simple}
use Rattle.dag_cbor.proofs.Items.{item_again}
use Rattle.dag_cbor.proofs.Through.{item_forces, key_forces, link_forces, head_forces}

-- ---- the faults of a head by itself

pub shown_rank : (h : RawHead) (kind : CborKind) → shows h kind ≡ true → (1 ≤ rank kind) × (rank kind ≤ 6)
unfolding shows
shown_rank h kinds.LongHead e = (omega arith, omega arith)
shown_rank h kinds.Reserved e = (omega arith, omega arith)
shown_rank h kinds.Indefinite e = (omega arith, omega arith)
shown_rank h kinds.Float e = (omega arith, omega arith)
shown_rank h kinds.Simple e = (omega arith, omega arith)
shown_rank h kinds.Tag e = (omega arith, omega arith)
shown_rank h _ e = absurd (false≢true e)

pub shown_span : (h : RawHead) (kind : CborKind) (rest : List ℕ) → shows h kind ≡ true → span kind rest ≡ head_len (raw_head_at rest) (length rest)
unfolding shows
shown_span h kinds.LongHead rest e = refl
shown_span h kinds.Reserved rest e = refl
shown_span h kinds.Indefinite rest e = refl
shown_span h kinds.Float rest e = refl
shown_span h kinds.Simple rest e = refl
shown_span h kinds.Tag rest e = refl
shown_span h _ rest e = absurd (false≢true e)

-- among these
abbrev Among : CborKind → List CborKind → Type 0
Among kind [] = ⊥
Among kind (other ∷ others) = (kind ≡ other) ⊎ Among kind others

shown_among : (h : RawHead) (kind : CborKind) → shows h kind ≡ true → Among kind head_rows
unfolding shows
shown_among h kinds.LongHead e = inl refl
shown_among h kinds.Reserved e = inr (inl refl)
shown_among h kinds.Indefinite e = inr (inr (inl refl))
shown_among h kinds.Float e = inr (inr (inr (inl refl)))
shown_among h kinds.Simple e = inr (inr (inr (inr (inl refl))))
shown_among h kinds.Tag e = inr (inr (inr (inr (inr (inl refl)))))
shown_among h _ e = absurd (false≢true e)

abbrev AllFrom : ℕ → List CborKind → Type 0
AllFrom n [] = Unit {0}
AllFrom n (kind ∷ others) = (n ≤ rank kind) × AllFrom n others

abbrev Rises : List CborKind → Type 0
Rises [] = Unit {0}
Rises (kind ∷ others) = AllFrom (rank kind) others × Rises others

from_among : (n : ℕ) (kind : CborKind) (others : List CborKind) → AllFrom n others → Among kind others → n ≤ rank kind
from_among n kind [] all among = absurd among
from_among n kind (other ∷ others) all (inl is) = subst (λ (k : CborKind). n ≤ rank k) (sym is) all.0
from_among n kind (other ∷ others) all (inr among) = from_among n kind others all.1 among

first_below : (test : CborKind → Bool) (all : List CborKind) (kind : CborKind) → Rises all → Among kind all → test kind ≡ true → (first : CborKind) × (first_shown test all ≡ Some first) × (rank first ≤ rank kind)
first_below test [] kind rises among e = absurd among
first_below test (other ∷ others) kind rises among e =
    elim (cases_Bool (test other)) [
      | inl t ↦ (other, rw t refl, elim among [ inl is ↦ subst (λ (k : CborKind). rank other ≤ rank k) (sym is) (omega arith) | inr more ↦ from_among (rank other) kind others rises.0 more ])
      | inr f ↦ elim among [
        | inl is ↦ absurd (true≢false (sym e ∙ ap test is ∙ f))
        | inr more ↦ let later = first_below test others kind rises.1 more e in (later.0, rw f later.1, later.2)
      ]
    ]

rows_rise : Rises head_rows
rows_rise = (
  (omega arith, (omega arith, (omega arith, (omega arith, (omega arith, tt))))),
  (
    (omega arith, (omega arith, (omega arith, (omega arith, tt)))),
    ((omega arith, (omega arith, (omega arith, tt))), ((omega arith, (omega arith, tt)), ((omega arith, tt), (tt, tt)))),
  ),
)

pub fault_below : (h : RawHead) (kind : CborKind) → shows h kind ≡ true → (first : CborKind) × (head_fault h ≡ Some first) × (rank first ≤ rank kind)
unfolding head_fault
fault_below h kind e = first_below (shows h) head_rows kind rows_rise (shown_among h kind e) e

shown_first : (test : CborKind → Bool) (all : List CborKind) (kind : CborKind) → first_shown test all ≡ Some kind → test kind ≡ true
shown_first test [] kind e = absurd cc
shown_first test (other ∷ others) kind e =
    elim (cases_Bool (test other)) [
      | inl t ↦ let is : other ≡ kind = cc (rw t at e) in subst (λ (k : CborKind). test k ≡ true) is t
      | inr f ↦ shown_first test others kind (rw f at e)
    ]

pub fault_shown : (h : RawHead) (kind : CborKind) → head_fault h ≡ Some kind → shows h kind ≡ true
unfolding head_fault
fault_shown h kind e = shown_first (shows h) head_rows kind e

pub fault_cases : (fault : Option CborKind) → (fault ≡ None) ⊎ ((kind : CborKind) × (fault ≡ Some kind))
fault_cases None = inl refl
fault_cases (Some kind) = inr (kind, refl)

pub head_bad : (rest : List ℕ) (h : RawHead) (after : List ℕ) (kind : CborKind) → raw_head_at rest ≡ Ok (h, after) → head_fault h ≡ Some kind → head_at rest ≡ Err (flaw kind (length rest))
unfolding head_at
head_bad rest h after kind read fault =
    ap (λ (r : Result (RawHead × List ℕ) Flaw). r >>= judged (length rest)) read ∙ ap (λ (f : Option CborKind). unless f (length rest) (record { major = h.major; number = h.number }, after)) fault

pub head_good : (rest : List ℕ) (h : RawHead) (after : List ℕ) → raw_head_at rest ≡ Ok (h, after) → head_fault h ≡ None → head_at rest ≡ Ok (record { major = h.major; number = h.number }, after)
unfolding head_at
head_good rest h after read fault =
    ap (λ (r : Result (RawHead × List ℕ) Flaw). r >>= judged (length rest)) read ∙ ap (λ (f : Option CborKind). unless f (length rest) (record { major = h.major; number = h.number }, after)) fault

-- ---- what a row forces

-- reading meets this fault, or one before it at the same moment
pub record Forced (bytes : List ℕ) (kind : CborKind) (at : ℕ) : Type 0 where
  pub met : Flaw
  pub read : whole_at bytes ≡ Err met
  pub later : 1 ≤ rank met.kind
  pub order : rank met.kind ≤ rank kind
  pub same : moment bytes met.kind (length bytes - met.left) ≡ moment bytes kind at
  pub row : Row bytes met.kind (length bytes - met.left)
  pub place : rank met.kind ≡ rank kind → length bytes - met.left ≡ at

pub left_place : (bytes front rest : List ℕ) → bytes ≡ front ++ rest → length bytes - length rest ≡ length front
left_place bytes front rest parts = omega (arith, ap length parts, length-append front rest)

drop_front : (bytes front rest : List ℕ) → bytes ≡ front ++ rest → drop (length front) bytes ≡ rest
drop_front bytes front rest parts = ap (drop (length front)) parts ∙ drop_at front rest (length front) refl

pub to_row : (h : RawHead) (bytes : List ℕ) (kind : CborKind) (at : ℕ) → shows h kind ≡ true → HeadRow bytes kind at → Row bytes kind at
unfolding shows
to_row h bytes kinds.LongHead at e row = row
to_row h bytes kinds.Reserved at e row = row
to_row h bytes kinds.Indefinite at e row = row
to_row h bytes kinds.Float at e row = row
to_row h bytes kinds.Simple at e row = row
to_row h bytes kinds.Tag at e row = row
to_row h bytes _ at e row = absurd (false≢true e)

-- reading meets the fault itself
itself : (bytes front rest : List ℕ) (kind : CborKind) (at : ℕ) → Row bytes kind at → bytes ≡ front ++ rest → at ≡ length front → 1 ≤ rank kind → whole_at bytes ≡ Err (flaw kind (length rest)) → Forced bytes kind at
itself bytes front rest kind at row parts place later e =
    let here : length bytes - length rest ≡ at = left_place bytes front rest parts ∙ sym place in
    record {
      met = flaw kind (length rest);
      read = e;
      later = later;
      order = omega arith;
      same = ap (moment bytes kind) here;
      row = subst (Row bytes kind) (sym here) row;
      place = λ _. here;
    }

-- reading meets a fault of the head by itself
by_head : (spot : Spot) (room : ℕ) (bytes rest : List ℕ) (h : RawHead) (after : List ℕ) (first kind : CborKind) (at : ℕ) → IsSpot room spot → bytes ≡ before spot ++ rest → raw_head_at rest ≡ Ok (h, after)
    → head_fault h ≡ Some first → rank first ≤ rank kind → ((bs : List ℕ) → span kind bs ≡ head_len (raw_head_at bs) (length bs)) → at ≡ length (before spot) → Forced bytes kind at
unfolding moment
by_head spot room bytes rest h after first kind at is parts read fault le spans place =
    let shown = fault_shown h first fault in
    let here : length bytes - length rest ≡ at = left_place bytes (before spot) rest parts ∙ sym place in
    record {
      met = flaw first (length rest);
      read = head_forces spot room bytes rest (flaw first (length rest)) is parts (head_bad rest h after first read fault);
      later = (shown_rank h first shown).0;
      order = le;
      same = ap (moment bytes first) here ∙ ap (λ (n : ℕ). at + n) (shown_span h first (drop at bytes) shown ∙ sym (spans (drop at bytes)));
      row = to_row h bytes first (length bytes - length rest) shown (record { spot = spot; room = room; rest = rest; raw = h; after = after; here = is; parts = parts; read = read; shown = shown; place = left_place bytes (before spot) rest parts });
      place = λ _. here;
    }

head_row : (bytes : List ℕ) (kind : CborKind) (at : ℕ) → HeadRow bytes kind at → Forced bytes kind at
head_row bytes kind at row =
    let first = fault_below row.raw kind row.shown in
    by_head row.spot row.room bytes row.rest row.raw row.after first.0 kind at row.here row.parts row.read first.1 first.2 (λ bs. shown_span row.raw kind bs row.shown) row.place

-- a key behind a good head
key_behind : (room : ℕ) (pairs : List (List ℕ × Value)) (rest : List ℕ) (h : Head × List ℕ) → head_at rest ≡ Ok h
    → key_at room pairs rest ≡ (of_key room (length rest) h >>= (λ h. text_at (length rest) h.0.number h.1) >>= after_last (last_key pairs) (length rest))
unfolding key_at
key_behind room pairs rest h e =
    ap (λ (r : Result (Head × List ℕ) Flaw). r >>= of_key room (length rest) >>= (λ h. text_at (length rest) h.0.number h.1) >>= after_last (last_key pairs) (length rest)) e

key_no_text : (room : ℕ) (pairs : List (List ℕ × Value)) (rest : List ℕ) (h : Head × List ℕ) → head_at rest ≡ Ok h → (h.0.major ≡ 3 → ⊥) → key_at room pairs rest ≡ Err (flaw kinds.KeyKind (length rest))
key_no_text room pairs rest h e other = key_behind room pairs rest h e ∙ rw (ne_eqb h.0.major 3 other) refl

key_too_deep : (pairs : List (List ℕ × Value)) (rest : List ℕ) (h : Head × List ℕ) → head_at rest ≡ Ok h → h.0.major ≡ 3 → key_at 0 pairs rest ≡ Err (flaw kinds.Depth (length rest))
key_too_deep pairs rest h e is = key_behind 0 pairs rest h e ∙ rw (eq-eqb h.0.major 3 is) refl

key_kind_row : (bytes : List ℕ) (at : ℕ) → KeyKindRow bytes at → Forced bytes kinds.KeyKind at
key_kind_row bytes at row =
    elim (fault_cases (head_fault row.raw)) [
      | inr f ↦ let r = shown_rank row.raw f.0 (fault_shown row.raw f.0 f.1) in
          by_head (key row.levels row.total row.pairs) row.room bytes row.rest row.raw row.after f.0 kinds.KeyKind at row.here row.parts row.read f.1 (omega (arith, r.1)) (λ bs. refl) row.place
      | inl none ↦ itself bytes (before (key row.levels row.total row.pairs)) row.rest kinds.KeyKind at row row.parts row.place (omega arith)
          (key_forces row.levels row.total row.pairs row.room bytes row.rest (flaw kinds.KeyKind (length row.rest)) row.here row.parts
          (key_no_text row.room row.pairs row.rest (record { major = row.raw.major; number = row.raw.number }, row.after) (head_good row.rest row.raw row.after row.read none) row.other))
    ]

item_too_deep : (rest : List ℕ) (h : Head × List ℕ) → head_at rest ≡ Ok h → token_at 0 rest ≡ Err (flaw kinds.Depth (length rest))
unfolding token_at
item_too_deep rest h e = ap (λ (r : Result (Head × List ℕ) Flaw). r >>= within 0 (length rest) >>= token_after (length rest)) e

kinds_alike : (bytes : List ℕ) (at : ℕ) → moment bytes kinds.KeyKind at ≡ moment bytes kinds.Depth at
unfolding moment
kinds_alike bytes at = refl

depth_of_spot : (spot : Spot) (bytes rest : List ℕ) (h : RawHead) (after : List ℕ) (at : ℕ) → IsItemSpot 0 spot → bytes ≡ before spot ++ rest → raw_head_at rest ≡ Ok (h, after) → at ≡ length (before spot) → Forced bytes kinds.Depth at
depth_of_spot (item levels) bytes rest h after at is parts read place =
    elim (fault_cases (head_fault h)) [
      | inr f ↦ let r = shown_rank h f.0 (fault_shown h f.0 f.1) in
          by_head (item levels) 0 bytes rest h after f.0 kinds.Depth at is parts read f.1 (omega (arith, r.1)) (λ bs. refl) place
      | inl none ↦ itself bytes (before (item levels)) rest kinds.Depth at (record { spot = item levels; rest = rest; raw = h; after = after; here = is; parts = parts; read = read; place = place }) parts place (omega arith)
          (item_forces levels 0 bytes rest (flaw kinds.Depth (length rest)) is parts (item_too_deep rest (record { major = h.major; number = h.number }, after) (head_good rest h after read none)))
    ]
depth_of_spot (key levels total pairs) bytes rest h after at is parts read place =
    elim (fault_cases (head_fault h)) [
      | inr f ↦ let r = shown_rank h f.0 (fault_shown h f.0 f.1) in
          by_head (key levels total pairs) 0 bytes rest h after f.0 kinds.Depth at is parts read f.1 (omega (arith, r.1)) (λ bs. refl) place
      | inl none ↦
          let good : Head × List ℕ = (record { major = h.major; number = h.number }, after) in
          elim (cases_eq h.major 3) [
            | inl text ↦ itself bytes (before (key levels total pairs)) rest kinds.Depth at (record { spot = key levels total pairs; rest = rest; raw = h; after = after; here = is; parts = parts; read = read; place = place }) parts place (omega arith)
                (key_forces levels total pairs 0 bytes rest (flaw kinds.Depth (length rest)) is parts (key_too_deep pairs rest good (head_good rest h after read none) text))
            | inr other ↦
                let here : length bytes - length rest ≡ at = left_place bytes (before (key levels total pairs)) rest parts ∙ sym place in
                record {
                  met = flaw kinds.KeyKind (length rest);
                  read = key_forces levels total pairs 0 bytes rest (flaw kinds.KeyKind (length rest)) is parts (key_no_text 0 pairs rest good (head_good rest h after read none) other);
                  later = omega arith;
                  order = omega arith;
                  same = ap (moment bytes kinds.KeyKind) here ∙ kinds_alike bytes at;
                  row = record {
                    levels = levels;
                    total = total;
                    pairs = pairs;
                    room = 0;
                    rest = rest;
                    raw = h;
                    after = after;
                    here = is;
                    parts = parts;
                    read = read;
                    other = other;
                    place = left_place bytes (before (key levels total pairs)) rest parts;
                  };
                  place = λ _. here;
                }
          ]
    ]
depth_of_spot (content levels) bytes rest h after at is parts read place = absurd is

-- ---- links

head_link : head 6 42 ≡ 216 ∷ (42 ∷ [])
unfolding head
head_link = refl

link_head_bad : (left : ℕ) (rest : List ℕ) (h : Head × List ℕ) → head_at rest ≡ Ok h → (h.0.major ≡ 2 → ⊥) → link_at left rest ≡ Err (flaw kinds.LinkForm left)
unfolding link_at
link_head_bad left rest h e other =
    ap (λ (r : Result (Head × List ℕ) Flaw). r >>= of_link left >>= λ h. blob_at h.0.number h.1 >>= as_cid left) e ∙ rw (ne_eqb h.0.major 2 other) refl

content_row : (bytes : List ℕ) (at : ℕ) → ContentRow bytes at → Forced bytes kinds.LinkForm at
unfolding moment
content_row bytes at row =
    let tagged : List ℕ = head 6 42 ++ row.rest in
    elim (fault_cases (head_fault row.raw)) [
      | inr f ↦
          let shown = fault_shown row.raw f.0 f.1 in
          let r = shown_rank row.raw f.0 shown in
          let parts : bytes ≡ (opened row.levels ++ head 6 42) ++ row.rest = row.parts ∙ sym (append_assoc (opened row.levels) (head 6 42) row.rest) in
          let two : length (opened row.levels ++ head 6 42) ≡ at + 2 = omega (arith, length-append (opened row.levels) (head 6 42), ap length head_link, row.place) in
          let here : length bytes - length row.rest ≡ at + 2 = left_place bytes (opened row.levels ++ head 6 42) row.rest parts ∙ two in
          let behind : drop (at + 2) bytes ≡ row.rest = ap (λ (n : ℕ). drop n bytes) (sym two) ∙ drop_front bytes (opened row.levels ++ head 6 42) row.rest parts in
          let at_tag : drop at bytes ≡ tagged = ap (λ (n : ℕ). drop n bytes) row.place ∙ drop_front bytes (opened row.levels) tagged row.parts in
          let tag_off : drop 2 tagged ≡ row.rest = ap (λ (t : List ℕ). drop 2 (t ++ row.rest)) head_link in
          let n : ℕ = length row.rest - length row.after in
          let mine : moment bytes f.0 (at + 2) ≡ at + 2 + n =
          ap (λ (m : ℕ). at + 2 + m) (shown_span row.raw f.0 (drop (at + 2) bytes) shown ∙ ap (λ (bs : List ℕ). head_len (raw_head_at bs) (length bs)) behind ∙ ap (λ (r : Result (RawHead × List ℕ) Flaw). head_len r (length row.rest)) row.read) in
          let of_link_form : moment bytes kinds.LinkForm at ≡ at + (2 + (n + 0)) =
          ap (λ (bs : List ℕ). at + (2 + content_len (raw_head_at (drop 2 bs)) (length (drop 2 bs)))) at_tag
          ∙ ap (λ (bs : List ℕ). at + (2 + content_len (raw_head_at bs) (length bs))) tag_off
          ∙ ap (λ (r : Result (RawHead × List ℕ) Flaw). at + (2 + content_len r (length row.rest))) row.read
          ∙ ap (λ (b : Bool). at + (2 + (n + cond b row.raw.number 0))) (ne_eqb row.raw.major 2 row.other) in
          record {
            met = flaw f.0 (length row.rest);
            read = head_forces (content row.levels) row.room bytes row.rest (flaw f.0 (length row.rest)) row.here parts (head_bad row.rest row.raw row.after f.0 row.read f.1);
            later = r.0;
            order = omega (arith, r.1);
            same = ap (moment bytes f.0) here ∙ mine ∙ sums at n ∙ sym of_link_form;
            row = to_row row.raw bytes f.0 (length bytes - length row.rest) shown (record {
              spot = content row.levels;
              room = row.room;
              rest = row.rest;
              raw = row.raw;
              after = row.after;
              here = row.here;
              parts = parts;
              read = row.read;
              shown = shown;
              place = left_place bytes (opened row.levels ++ head 6 42) row.rest parts;
            });
            place = λ e. absurd (omega (arith, r.1, e));
          }
      | inl none ↦ itself bytes (opened row.levels) tagged kinds.LinkForm at (inl row) row.parts row.place (omega arith)
          (link_forces row.levels row.room bytes row.rest (flaw kinds.LinkForm (length tagged)) row.here row.parts
          (link_head_bad (length tagged) row.rest (record { major = row.raw.major; number = row.raw.number }, row.after) (head_good row.rest row.raw row.after row.read none) row.other))
    ]
  where
    sums : (at n : ℕ) → at + 2 + n ≡ at + (2 + (n + 0))
    sums at n = omega arith

linked_none : (blob : List ℕ) → ((cid : CidParts) → IsCid cid → blob ≡ 0 ∷ cid_bytes cid → ⊥) → linked blob ≡ None
linked_none [] other = refl
linked_none (zero ∷ bytes) other = sym (none_from (cid_of bytes) (λ cid found. let of_cid = cid_of-some bytes cid found in other cid of_cid.0 (ap (λ (bs : List ℕ). 0 ∷ bs) of_cid.1)))
linked_none (suc n ∷ bytes) other = refl

link_blob_bad : (left : ℕ) (blob rest : List ℕ) → length blob < 2 ^ 64 → linked blob ≡ None → link_at left (head 2 (length blob) ++ (blob ++ rest)) ≡ Err (flaw kinds.LinkForm left)
unfolding link_at
link_blob_bad left blob rest fits none =
    ap (λ (r : Result (Head × List ℕ) Flaw). r >>= of_link left >>= λ h. blob_at h.0.number h.1 >>= as_cid left) (head_again 2 (length blob) (blob ++ rest) fits (never_tag 2 _ (omega arith)) (never_simple 2 _ (omega arith)))
    ∙ ap (λ (r : Result (List ℕ × List ℕ) Flaw). r >>= as_cid left) (blob_again blob rest)
    ∙ ap (λ (o : Option CidParts). elim o as (λ _. Result (CidParts × List ℕ) Flaw) [ Some c ↦ Ok (c, rest) | None ↦ Err (flaw kinds.LinkForm left) ]) none

link_row : (bytes : List ℕ) (at : ℕ) → LinkRow bytes at → Forced bytes kinds.LinkForm at
link_row bytes at row =
    let inner : List ℕ = head 2 (length row.blob) ++ (row.blob ++ row.rest) in
    itself bytes (opened row.levels) (head 6 42 ++ inner) kinds.LinkForm at (inr row) row.parts row.place (omega arith)
    (link_forces row.levels row.room bytes inner (flaw kinds.LinkForm (length (head 6 42 ++ inner))) row.here row.parts (link_blob_bad (length (head 6 42 ++ inner)) row.blob row.rest row.fits (linked_none row.blob row.other)))

-- ---- texts and keys

text_bad : (left : ℕ) (text rest : List ℕ) → (IsUtf8 text → ⊥) → text_at left (length text) (text ++ rest) ≡ Err (flaw kinds.Utf8 left)
unfolding text_at
text_bad left text rest other =
    let not_text : is_utf8 text ≡ false = false_from_ne_true (is_utf8 text) (λ e. other (IsUtf8-from_is_utf8 text e)) in
    ap (λ (r : Result (List ℕ × List ℕ) Flaw). r >>= as_text left) (blob_again text rest) ∙ rw not_text refl

-- a key behind the head of a text
key_of_text : (room : ℕ) (pairs : List (List ℕ × Value)) (text rest : List ℕ) → length text < 2 ^ 64
    → key_at (suc room) pairs (head 3 (length text) ++ (text ++ rest)) ≡ (text_at (length (head 3 (length text) ++ (text ++ rest))) (length text) (text ++ rest) >>= after_last (last_key pairs) (length (head 3 (length text) ++ (text ++ rest))))
key_of_text room pairs text rest fits =
    let bytes : List ℕ = head 3 (length text) ++ (text ++ rest) in
    let x : Head × List ℕ = (record { major = 3; number = length text }, text ++ rest) in
    let deep : eqb (suc room) 0 ≡ false = ne_eqb (suc room) 0 (λ e. omega arith) in
    let roomy : within (suc room) (length bytes) x ≡ Ok x = rw deep refl in
    key_behind (suc room) pairs bytes x (head_again 3 (length text) (text ++ rest) fits (never_tag 3 _ (omega arith)) (never_simple 3 _ (omega arith)))
    ∙ ap (λ (r : Result (Head × List ℕ) Flaw). r >>= (λ h. text_at (length bytes) h.0.number h.1) >>= after_last (last_key pairs) (length bytes)) roomy

text_of_spot : (spot : Spot) (room : ℕ) (bytes text rest : List ℕ) → IsItemSpot (suc room) spot → length text < 2 ^ 64 → bytes ≡ before spot ++ (head 3 (length text) ++ (text ++ rest)) → (IsUtf8 text → ⊥)
    → whole_at bytes ≡ Err (flaw kinds.Utf8 (length (head 3 (length text) ++ (text ++ rest))))
text_of_spot (item levels) room bytes text rest is fits parts other =
    let left : ℕ = length (head 3 (length text) ++ (text ++ rest)) in
    item_forces levels (suc room) bytes (head 3 (length text) ++ (text ++ rest)) (flaw kinds.Utf8 left) is parts
    (token_again (suc room) 3 (length text) (text ++ rest) (omega arith) fits (never_tag 3 _ (omega arith)) (never_simple 3 _ (omega arith)) ∙ ap (λ (r : Result (List ℕ × List ℕ) Flaw). r >>= text_token) (text_bad left text rest other))
text_of_spot (key levels total pairs) room bytes text rest is fits parts other =
    let left : ℕ = length (head 3 (length text) ++ (text ++ rest)) in
    key_forces levels total pairs (suc room) bytes (head 3 (length text) ++ (text ++ rest)) (flaw kinds.Utf8 left) is parts
    (key_of_text room pairs text rest fits ∙ ap (λ (r : Result (List ℕ × List ℕ) Flaw). r >>= after_last (last_key pairs) left) (text_bad left text rest other))
text_of_spot (content levels) room bytes text rest is fits parts other = absurd is

text_row : (bytes : List ℕ) (at : ℕ) → TextRow bytes at → Forced bytes kinds.Utf8 at
text_row bytes at row =
    itself bytes (before row.spot) (head 3 (length row.text) ++ (row.text ++ row.rest)) kinds.Utf8 at row row.parts row.place (omega arith)
    (text_of_spot row.spot row.room bytes row.text row.rest row.here row.fits row.parts row.other)

key_of_row : (bytes : List ℕ) (order : Ordering) (at : ℕ) (kind : CborKind) → KeyRow bytes order at → Row bytes kind at → ((left : ℕ) (k : List ℕ × List ℕ) → in_order order left k ≡ Err (flaw kind left)) → 1 ≤ rank kind → Forced bytes kind at
key_of_row bytes order at kind row whole bad later =
    let rest : List ℕ = head 3 (length row.text) ++ (row.text ++ row.rest) in
    itself bytes (before (key row.levels row.total row.pairs)) rest kind at whole row.parts row.place later
    (key_forces row.levels row.total row.pairs (suc row.room) bytes rest (flaw kind (length rest)) row.here row.parts
    (key_of_text row.room row.pairs row.text row.rest row.is_text.0
    ∙ ap (λ (r : Result (List ℕ × List ℕ) Flaw). r >>= after_last (last_key row.pairs) (length rest)) (text_again (length rest) row.text row.rest row.is_text.1)
    ∙ ap (λ (o : Ordering). in_order o (length rest) (row.text, row.rest)) row.stands
    ∙ bad (length rest) (row.text, row.rest)))

trailing_row : (bytes : List ℕ) (at : ℕ) → TrailingRow bytes at → Forced bytes kinds.Trailing at
unfolding whole_at
trailing_row bytes at row =
    let rest : List ℕ = row.next ∷ row.rest in
    let more : eqb (length rest) 0 ≡ false = ne_eqb (length rest) 0 (λ e. omega arith) in
    itself bytes (spelled row.value) rest kinds.Trailing at row row.parts row.place (omega arith)
    (ap (λ (bs : List ℕ). item_at MAX_DEPTH bs >>= λ x. cond (eqb (length x.1) 0) (Ok x.0) (Err (flaw kinds.Trailing (length x.1)))) row.parts
    ∙ ap (λ (r : Result (Value × List ℕ) Flaw). r >>= λ x. cond (eqb (length x.1) 0) (Ok x.0) (Err (flaw kinds.Trailing (length x.1)))) (item_again MAX_DEPTH row.value rest row.plain)
    ∙ rw more refl)

-- any fault that bytes have
pub row_forces : (bytes : List ℕ) (kind : CborKind) (at : ℕ) → Row bytes kind at → Forced bytes kind at
row_forces bytes kinds.Cut at row = head_row bytes kinds.Cut at row
row_forces bytes kinds.LongHead at row = head_row bytes kinds.LongHead at row
row_forces bytes kinds.Reserved at row = head_row bytes kinds.Reserved at row
row_forces bytes kinds.Indefinite at row = head_row bytes kinds.Indefinite at row
row_forces bytes kinds.Float at row = head_row bytes kinds.Float at row
row_forces bytes kinds.Simple at row = head_row bytes kinds.Simple at row
row_forces bytes kinds.Tag at row = head_row bytes kinds.Tag at row
row_forces bytes kinds.LinkForm at (inl row) = content_row bytes at row
row_forces bytes kinds.LinkForm at (inr row) = link_row bytes at row
row_forces bytes kinds.Utf8 at row = text_row bytes at row
row_forces bytes kinds.KeyKind at row = key_kind_row bytes at row
row_forces bytes kinds.KeyOrder at row = key_of_row bytes orders.Greater at kinds.KeyOrder row row (λ left k. refl) (omega arith)
row_forces bytes kinds.KeyRepeat at row = key_of_row bytes orders.Equal at kinds.KeyRepeat row row (λ left k. refl) (omega arith)
row_forces bytes kinds.Depth at row = depth_of_spot row.spot bytes row.rest row.raw row.after at row.here row.parts row.read row.place
row_forces bytes kinds.Trailing at row = trailing_row bytes at row
