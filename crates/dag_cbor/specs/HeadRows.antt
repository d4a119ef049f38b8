-- The faults that a head has by itself (RFC 8949, section 3; the DAG-CBOR specification, "Strictness").
use Rattle.std.specs.Prelude.{ℕ, ◌^◌, Bool, false, not, ◌&&◌, ◌||◌, nat_lt, ◌==◌, if◌then◌else◌, List, [], ◌∷◌, Option, Some, None}
use Rattle.dag_cbor.specs.declared.fault.CborKind.{CborKind}
use Rattle.dag_cbor.specs.declared.fault.CborKind.TheVariants.{LongHead, Reserved, Indefinite, Float, Simple, Tag}
use Rattle.dag_cbor.specs.declared.head.RawHead.{RawHead}
use Rattle.dag_cbor.specs.declared.head.TheConstants.{TAG, SIMPLE}
use Rattle.dag_cbor.specs.declared.rows.TheConstants.{LINK}

-- the least number that needs as many bytes as the low bits say
abbrev pub least : ℕ → ℕ
least info =
    if info == 24 then 24
    else (if info == 25 then 2 ^ 8
    else (if info == 26 then 2 ^ 16
    else (if info == 27 then 2 ^ 32
    else 0)))

-- whether a head has this fault: a number in more bytes than it needs, low bits without a meaning, an indefinite
-- length, a floating-point number, a simple value other than 20 to 22, a tag other than 42
unfoldable pub shows : RawHead → CborKind → Bool
shows h LongHead = nat_lt h.major SIMPLE && nat_lt h.number (least h.info)
shows h Reserved = (nat_lt 27 h.info && nat_lt h.info 31) || (h.info == 31 && (nat_lt h.major 2 || h.major == TAG))
shows h Indefinite = h.info == 31 && nat_lt 1 h.major && not (h.major == TAG)
shows h Float = h.major == SIMPLE && nat_lt 24 h.info && nat_lt h.info 28
shows h Simple = h.major == SIMPLE && (nat_lt h.info 20 || (nat_lt 22 h.info && nat_lt h.info 25))
shows h Tag = h.major == TAG && not (h.number == LINK)
shows h _ = false

-- the faults that a head can have by itself, in their order
abbrev pub head_rows : List CborKind
head_rows = LongHead ∷ Reserved ∷ Indefinite ∷ Float ∷ Simple ∷ Tag ∷ []

-- the first of these that is shown
abbrev pub first_shown : (CborKind → Bool) → List CborKind → Option CborKind
first_shown test [] = None
first_shown test (kind ∷ kinds) = if test kind then Some kind else first_shown test kinds

-- the fault of a head by itself that is judged first
unfoldable pub head_fault : RawHead → Option CborKind
head_fault h = first_shown (shows h) head_rows
