-- One more message of a run.
use Rattle.std.proofs.Common.{◌≡◌, ℕ, ◌+◌, ◌<◌, List, [], ◌∷◌, ◌++◌, length, get_or, take, refl, ap, ◌∙◌}
use Rattle.std.proofs.lemmas.List.{take_more}
use Rattle.std.proofs.lemmas.List.Sums.{fold_more}
use Rattle.fil_message.specs.declared.form0.Form0Message.{Form0Message}
use Rattle.tipset_exec.specs.Accounts.{Accounts, exit_of, after}
use Rattle.tipset_exec.specs.Report.{exits, final}

exits_push : (s : Accounts) (ms : List Form0Message) (m : Form0Message) → exits s (ms ++ m ∷ []) ≡ exits s ms ++ exit_of (final s ms) m ∷ []
unfolding exits
exits_push s [] m = refl
exits_push s (n ∷ ms) m = ap (λ done. exit_of s n ∷ done) (exits_push (after s n) ms m)

pub exits_more : (s : Accounts) (ms : List Form0Message) (i : ℕ) (d : Form0Message) → i < length ms → exits s (take (i + 1) ms) ≡ exits s (take i ms) ++ exit_of (final s (take i ms)) (get_or ms i d) ∷ []
exits_more s ms i d within = ap (exits s) (take_more ms i d within) ∙ exits_push s (take i ms) (get_or ms i d)

pub final_more : (s : Accounts) (ms : List Form0Message) (i : ℕ) (d : Form0Message) → i < length ms → final s (take (i + 1) ms) ≡ after (final s (take i ms)) (get_or ms i d)
final_more s ms i d within = fold_more after s ms i d within

pub no_exits : (s : Accounts) → exits s [] ≡ []
unfolding exits
no_exits s = refl

pub ruleset steps = (no_exits, exits_more, final_more)
