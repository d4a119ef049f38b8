-- The text of the report on an account list. Numbers are decimal, and every line ends with a line feed.
use Rattle.std.specs.Prelude.{ℕ, List, ◌++◌, codes}
use Rattle.std.specs.List.{flat_map, enumerate_from}
use Rattle.std.specs.Fmt.{decimal}
use Rattle.fil_message.specs.declared.form0.Form0Actor.{Form0Actor}
use Rattle.fil_message.specs.declared.form0.Form0Report.{Form0Report}

-- message <place> exit <code>
abbrev pub message_line : ℕ × ℕ → List ℕ
message_line (i, exit) = codes "message " ++ (decimal i ++ (codes " exit " ++ (decimal exit ++ codes "\n")))

-- actor <id> nonce <nonce> balance <balance>
abbrev pub actor_line : Form0Actor → List ℕ
actor_line a = codes "actor " ++ (decimal a.id ++ (codes " nonce " ++ (decimal a.nonce ++ (codes " balance " ++ (decimal a.balance ++ codes "\n")))))

-- the epoch, the messages by their places from 0, the actors, the end
unfoldable pub form0_text : Form0Report → List ℕ
form0_text r = codes "epoch " ++ (decimal r.epoch ++ (codes "\n" ++ (flat_map message_line (enumerate_from 0 r.exits) ++ (flat_map actor_line r.actors ++ codes "end\n"))))
