-- What holds of a channel, whatever is called.
use Rattle.std.proofs.Common.{◌≡◌, ℕ, true, List, [], ◌∷◌, ◌++◌, arith, refl, append_assoc, sym, ◌∙◌, ap}
use Rattle.std.proofs.lemmas.Grind.{common_steps}
use Rattle.wt_driver.specs.declared.bichannel.ChannelEnd.{ChannelEnd}
use Rattle.wt_driver.specs.declared.bichannel.ChannelEnd.TheVariants.{Left, Right}
use Rattle.wt_driver.specs.BiChannel.{Channel, ChannelCall, Send, Recv, Leave, after_call, after_calls, all_received, all_sent, received_by, sent_by, empty_channel, is_closed, queue_of}

module _ {T : Type 0} where
  -- one call: what it receives and what then waits is what waited and what it sends
  order_by_call : (end : ChannelEnd) (call : ChannelCall T) (channel : Channel T) →
      received_by end call channel ++ queue_of end (after_call call channel) ≡ queue_of end channel ++ sent_by end call channel
  order_by_call Right (Send Left value) channel = grind (arith, common_steps)
  order_by_call Right (Send Right value) channel = grind (arith, common_steps)
  order_by_call Right (Recv Left) channel = grind (arith, common_steps)
  order_by_call Right (Recv Right) channel = grind (arith, common_steps)
  order_by_call Right (Leave Left) channel = grind (arith, common_steps)
  order_by_call Right (Leave Right) channel = grind (arith, common_steps)
  order_by_call Left _ channel = grind (arith, common_steps)

  order_by_calls : (end : ChannelEnd) (calls : List (ChannelCall T)) (channel : Channel T) →
      all_received end calls channel ++ queue_of end (after_calls calls channel) ≡ queue_of end channel ++ all_sent end calls channel
  order_by_calls end [] channel = grind (arith, common_steps)
  order_by_calls end (call ∷ later) channel =
      let first = order_by_call end call channel in
      let rest = order_by_calls end later (after_call call channel) in
      append_assoc (received_by end call channel) (all_received end later (after_call call channel)) _
      ∙ ap (λ xs. received_by end call channel ++ xs) rest
      ∙ sym (append_assoc (received_by end call channel) (queue_of end (after_call call channel)) _)
      ∙ ap (λ xs. xs ++ all_sent end later (after_call call channel)) first
      ∙ append_assoc (queue_of end channel) (sent_by end call channel) _

  pub received_in_order : (capacity : ℕ) (end : ChannelEnd) (calls : List (ChannelCall T)) →
      all_received end calls (empty_channel capacity) ++ queue_of end (after_calls calls (empty_channel capacity)) ≡ all_sent end calls (empty_channel capacity)
  received_in_order capacity Left calls = order_by_calls Left calls (empty_channel capacity)
  received_in_order capacity Right calls = order_by_calls Right calls (empty_channel capacity)

  closed_after_call : (call : ChannelCall T) (channel : Channel T) → is_closed channel ≡ true → is_closed (after_call call channel) ≡ true
  closed_after_call (Send end value) channel e = rw e e
  closed_after_call (Recv Left) channel e = e
  closed_after_call (Recv Right) channel e = e
  closed_after_call (Leave Left) channel e = refl
  closed_after_call (Leave Right) channel e = grind (arith, common_steps)

  pub closed_stays : (channel : Channel T) (calls : List (ChannelCall T)) → is_closed channel ≡ true → is_closed (after_calls calls channel) ≡ true
  closed_stays channel [] e = e
  closed_stays channel (call ∷ later) e = closed_stays (after_call call channel) later (closed_after_call call channel e)
