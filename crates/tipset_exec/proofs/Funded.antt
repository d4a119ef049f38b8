-- What keeps a state funded.
use Rattle.std.proofs.Common.{◌≡◌, ◌≢◌, ℕ, ◌+◌, ◌-◌, ◌≤◌, true, false, cond, eqb, Option, Some, None, refl, sym, ap, subst, ◌∙◌, arith}
use Rattle.std.proofs.lemmas.Bool.{eqb-false}
use Rattle.std.specs.Prelude.{is_some}
use Rattle.std.specs.FinMap.{get}
use Rattle.fil_base.specs.CidParts.{CidParts}
use Rattle.fil_message.specs.declared.message.Message.{Message}
use Rattle.state_model.specs.State.{State}
use Rattle.state_tree.specs.ActorPairs.{balance_of}
use Rattle.state_tree.specs.declared.actor.Actor.{Actor}
use Rattle.tipset_exec.specs.Balances.{burned, burnt_funds_id, minted, moved, paid, reward_id, with_less, with_more}
use Rattle.tipset_exec.specs.Funds.{IsFunded, IsOther, IsWithin, code_at, held}
use Rattle.tipset_exec.specs.Messages.{greatest_cost, set_aside}
use Rattle.tipset_exec.proofs.Changes.{IsChanged, actor_of_code, change_is, changed_none, grown}
use Rattle.tipset_exec.proofs.Sums.{held_within}

-- the changes of an actor
abbrev more : ℕ → Actor → Actor
more n actor = record actor { balance = actor.balance + n }

abbrev less : ℕ → Actor → Actor
less n actor = record actor { balance = actor.balance - n }

abbrev sent : Message → Actor → Actor
sent m actor = record actor { sequence = actor.sequence + 1; balance = actor.balance - greatest_cost m }

some_other : (account : CidParts) (o : Option CidParts) → IsOther account o → is_some o ≡ true
some_other account None is = absurd is
some_other account (Some code) is = refl

module _ (account : CidParts) where
  -- ---- what it says

  -- its amounts are in their ranges
  pub within_range : (s : State) (aside due tips : ℕ) → IsFunded account s aside due tips → IsWithin s
  within_range s aside due tips is = record {
    balances = omega (arith, is.room);
    minted = omega (arith, is.minted);
    burned = omega (arith, is.room, is.burned, held_within s.actors burnt_funds_id);
  }

  -- and so are the tips
  pub tips_within : (s : State) (aside due tips : ℕ) → IsFunded account s aside due tips → tips ≤ 2000000000000000000000000000
  tips_within s aside due tips is = omega (arith, is.room, is.has_tips, held_within s.actors reward_id)

  -- it's so with less
  pub with_fewer : (s : State) (aside due tips aside2 due2 tips2 : ℕ) → IsFunded account s aside due tips → aside2 + due2 ≤ aside + due → due2 ≤ due → tips2 ≤ tips → IsFunded account s aside2 due2 tips2
  with_fewer s aside due tips aside2 due2 tips2 is sums dues fewer = record {
    reward = is.reward;
    burnt_funds = is.burnt_funds;
    room = omega (arith, is.room);
    minted = omega (arith, is.minted);
    burned = is.burned;
    has_tips = omega (arith, is.has_tips);
  }

  -- ---- one actor's balance changes

  gives : (s t : State) (id before n aside due tips : ℕ) → IsChanged s t id before (before + n) → IsFunded account s (n + aside) due tips → IsFunded account t aside due tips
  gives s t id before n aside due tips ch is = record {
    reward = subst (IsOther account) (sym (ch.codes reward_id)) is.reward;
    burnt_funds = ap is_some (ch.codes burnt_funds_id) ∙ is.burnt_funds;
    room = omega (arith, is.room, ch.total);
    minted = omega (arith, is.minted, ch.minted);
    burned = omega (arith, is.burned, ch.burned, grown s t id before n ch burnt_funds_id);
    has_tips = omega (arith, is.has_tips, grown s t id before n ch reward_id);
  }

  pub give_funded : (s : State) (id n aside due tips : ℕ) → IsFunded account s (n + aside) due tips → IsFunded account (with_more s id n) aside due tips
  give_funded s id n aside due tips is =
      elim (get s.actors id) as (λ o. get s.actors id ≡ o → IsFunded account (with_more s id n) aside due tips) [
        | None ↦ λ none.
            subst (λ (t : State). IsFunded account t aside due tips) (sym (changed_none s id (more n) none)) (with_fewer s (n + aside) due tips aside due tips is (omega arith) (omega arith) (omega arith))
        | (Some actor) ↦ λ there. gives s (with_more s id n) id actor.balance n aside due tips (change_is s id (more n) actor there refl) is
      ] refl

  -- what the reward actor is given may be tips
  pub tip_funded : (s : State) (n aside due tips : ℕ) → IsFunded account s (n + aside) due tips → IsFunded account (with_more s reward_id n) aside due (n + tips)
  tip_funded s n aside due tips is =
      let there = actor_of_code s reward_id (some_other account (code_at s reward_id) is.reward) in
      let ch = change_is s reward_id (more n) there.0 there.1 refl in
      let now = gives s (with_more s reward_id n) reward_id there.0.balance n aside due tips ch is in
      record {
        reward = now.reward;
        burnt_funds = now.burnt_funds;
        room = now.room;
        minted = now.minted;
        burned = now.burned;
        has_tips = omega (arith, is.has_tips, ch.there, ch.here);
      }

  takes : (s t : State) (id before n aside due tips : ℕ) → IsChanged s t id before (before - n) → n ≤ before → id ≢ reward_id → id ≢ burnt_funds_id → IsFunded account s aside due tips
      → IsFunded account t (n + aside) due tips
  takes s t id before n aside due tips ch enough no_reward no_funds is = record {
    reward = subst (IsOther account) (sym (ch.codes reward_id)) is.reward;
    burnt_funds = ap is_some (ch.codes burnt_funds_id) ∙ is.burnt_funds;
    room = omega (arith, is.room, ch.total);
    minted = omega (arith, is.minted, ch.minted);
    burned = omega (arith, is.burned, ch.burned, ch.others burnt_funds_id (λ e. no_funds (sym e)));
    has_tips = omega (arith, is.has_tips, ch.others reward_id (λ e. no_reward (sym e)));
  }

  pub take_funded : (s : State) (id n aside due tips : ℕ) → n ≤ held s id → id ≢ reward_id → id ≢ burnt_funds_id → IsFunded account s aside due tips → IsFunded account (with_less s id n) (n + aside) due tips
  take_funded s id n aside due tips enough no_reward no_funds is =
      elim (get s.actors id) as (λ o. get s.actors id ≡ o → IsFunded account (with_less s id n) (n + aside) due tips) [
        | None ↦ λ none.
            let nothing : held s id ≡ 0 = ap balance_of none in
            subst (λ (t : State). IsFunded account t (n + aside) due tips) (sym (changed_none s id (less n) none)) (with_fewer s aside due tips (n + aside) due tips is (omega (arith, enough, nothing)) (omega arith) (omega arith))
        | (Some actor) ↦ λ there.
            let ch = change_is s id (less n) actor there refl in
            takes s (with_less s id n) id actor.balance n aside due tips ch (omega (arith, enough, ch.there)) no_reward no_funds is
      ] refl

  -- the sender's balance and its sequence number
  pub aside_funded : (s : State) (id : ℕ) (m : Message) (actor : Actor) (aside due tips : ℕ) → get s.actors id ≡ Some actor → greatest_cost m ≤ actor.balance → id ≢ reward_id → id ≢ burnt_funds_id
      → IsFunded account s aside due tips → IsFunded account (set_aside s id m) (greatest_cost m + aside) due tips
  aside_funded s id m actor aside due tips there enough no_reward no_funds is =
      takes s (set_aside s id m) id actor.balance (greatest_cost m) aside due tips (change_is s id (sent m) actor there refl) enough no_reward no_funds is

  -- what the reward actor pays are tips
  pub reward_funded : (s : State) (n aside due tips : ℕ) → IsFunded account s aside due (n + tips) → IsFunded account (with_less s reward_id n) (n + aside) due tips
  reward_funded s n aside due tips is =
      let there = actor_of_code s reward_id (some_other account (code_at s reward_id) is.reward) in
      let ch = change_is s reward_id (less n) there.0 there.1 refl in record {
        reward = subst (IsOther account) (sym (ch.codes reward_id)) is.reward;
        burnt_funds = ap is_some (ch.codes burnt_funds_id) ∙ is.burnt_funds;
        room = omega (arith, is.room, is.has_tips, ch.there, ch.total);
        minted = omega (arith, is.minted, ch.minted);
        burned = omega (arith, is.burned, ch.burned, ch.others burnt_funds_id (eqb-false burnt_funds_id reward_id refl));
        has_tips = omega (arith, is.has_tips, ch.there, ch.here);
      }

  -- ---- amounts that are recorded

  pub burn_funded : (s : State) (n aside due tips : ℕ) → IsFunded account s (n + aside) due tips → IsFunded account (burned s n) aside due tips
  burn_funded s n aside due tips is =
      let there = actor_of_code s burnt_funds_id is.burnt_funds in
      let ch = change_is s burnt_funds_id (more n) there.0 there.1 refl in
      let now = gives s (with_more s burnt_funds_id n) burnt_funds_id there.0.balance n aside due tips ch is in
      record {
        reward = now.reward;
        burnt_funds = now.burnt_funds;
        room = now.room;
        minted = now.minted;
        burned = omega (arith, is.burned, ch.there, ch.here);
        has_tips = now.has_tips;
      }

  pub pay_funded : (s : State) (id n aside due tips : ℕ) → IsFunded account s (n + aside) due tips → IsFunded account (paid s id n) aside due tips
  pay_funded s id n aside due tips is =
      elim (eqb id burnt_funds_id) as (λ b. IsFunded account (cond b (burned s n) (with_more s id n)) aside due tips) [
        | true ↦ burn_funded s n aside due tips is
        | false ↦ give_funded s id n aside due tips is
      ]

  pub mint_funded : (s : State) (n aside due tips : ℕ) → IsFunded account s aside (n + due) tips → IsFunded account (minted s n) aside due (n + tips)
  mint_funded s n aside due tips is =
      let there = actor_of_code s reward_id (some_other account (code_at s reward_id) is.reward) in
      let ch = change_is s reward_id (more n) there.0 there.1 refl in
      let now = gives s (with_more s reward_id n) reward_id there.0.balance n aside due tips ch (with_fewer s aside (n + due) tips (n + aside) due tips is (omega arith) (omega arith) (omega arith)) in
      record {
        reward = now.reward;
        burnt_funds = now.burnt_funds;
        room = now.room;
        minted = omega (arith, is.minted);
        burned = now.burned;
        has_tips = omega (arith, is.has_tips, ch.there, ch.here);
      }

  -- ---- amounts that move

  -- from a sender
  pub send_funded : (s : State) (id to n aside due tips : ℕ) → n ≤ held s id → id ≢ reward_id → id ≢ burnt_funds_id → IsFunded account s aside due tips → IsFunded account (moved s id to n) aside due tips
  send_funded s id to n aside due tips enough no_reward no_funds is =
      pay_funded (with_less s id n) to n aside due tips (take_funded s id n aside due tips enough no_reward no_funds is)

  -- from the reward actor
  pub reward_sent : (s : State) (to n aside due tips : ℕ) → IsFunded account s aside due (n + tips) → IsFunded account (moved s reward_id to n) aside due tips
  reward_sent s to n aside due tips is = pay_funded (with_less s reward_id n) to n aside due tips (reward_funded s n aside due tips is)
