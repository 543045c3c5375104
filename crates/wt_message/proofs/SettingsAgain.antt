-- SETTINGS that are written are read again.
use Rattle.std.proofs.Common.{◌≡◌, ◌≤◌, ◌<◌, ◌^◌, ℕ, List, [], ◌++◌, length, drop, Option, Some, None, Ok, refl, sym, ap, ◌∙◌, arith, append_assoc, length-append}
use Rattle.std.proofs.lemmas.List.{drop_at}
use Rattle.wt_message.specs.declared.settings.SettingId.{SettingId}
use Rattle.wt_message.specs.declared.settings.SettingId.TheVariants.{QPackMaxTableCapacity, MaxFieldSectionSize, QPackBlockedStreams, EnableConnectProtocol, H3Datagram, EnableWebTransport, WebTransportMaxSessions}
use Rattle.wt_message.specs.declared.settings.Settings.{Settings}
use Rattle.wt_wire.specs.Varint.{varint_at, varint_bytes}
use Rattle.wt_message.specs.Settings.{pairs_from, with_pair, setting, setting_number, with_setting, no_settings, settings_of, option_bytes, settings_bytes, IsSmall, AreSmall}
use Rattle.wt_message.specs.SettingPair.{pair_at}
use Rattle.wt_wire.specs.ResultBind.{◌>>=◌}
use Rattle.wt_message.proofs.PairLaws.{pair_in_front}
use Rattle.wt_wire.proofs.VarintAgain.{varint_again}
use Rattle.wt_wire.proofs.VarintLaws.{varint_at-within}

number_small : (id : SettingId) → setting_number id < 2 ^ 62
number_small QPackMaxTableCapacity = omega arith
number_small _ = omega arith

with_new_pair : (t : Settings) (id : SettingId) (v : ℕ) → setting t id ≡ None → with_pair t (setting_number id) v ≡ Ok (with_setting id (Some v) t)
unfolding with_pair
with_new_pair t QPackMaxTableCapacity v h = rw h refl
with_new_pair t _ v h = rw h refl

pair_again : (i v : ℕ) (more : List ℕ) → i < 2 ^ 62 → v < 2 ^ 62 → pair_at ((varint_bytes i ++ varint_bytes v) ++ more) ≡ Some (record { id = i; value = v; len = length (varint_bytes i ++ varint_bytes v) })
unfolding pair_at
pair_again i v more h k =
    let bytes : List ℕ = (varint_bytes i ++ varint_bytes v) ++ more in
    let offset : ℕ = length (varint_bytes i) in
    let regrouped : (varint_bytes i ++ varint_bytes v) ++ more ≡ varint_bytes i ++ (varint_bytes v ++ more) = append_assoc (varint_bytes i) (varint_bytes v) more in
    let first : varint_at bytes ≡ Some (i, offset) = ap varint_at regrouped ∙ varint_again i (varint_bytes v ++ more) h in
    let second : varint_at (drop offset bytes) ≡ Some (v, length (varint_bytes v)) = ap (λ bs. varint_at (drop offset bs)) regrouped ∙ ap varint_at (drop_at (varint_bytes i) (varint_bytes v ++ more) offset refl) ∙ varint_again v more k in
    rw first (rw second refl)
    ∙ ap (λ l. Some (record { id = i; value = v; len = l })) (sym (length-append (varint_bytes i) (varint_bytes v)))

varint_not_empty : (n : ℕ) → n < 2 ^ 62 → 1 ≤ length (varint_bytes n)
varint_not_empty n h = (varint_at-within (varint_bytes n ++ []) (n, length (varint_bytes n)) (varint_again n [] h)).0

-- one setting more
one_more : (t : Settings) (id : SettingId) (o : Option ℕ) (more : List ℕ) → setting t id ≡ None → with_setting id None t ≡ t → IsSmall o → pairs_from t 0 (option_bytes (setting_number id) o ++ more) ≡ pairs_from (with_setting id o t) 0 more
one_more t id None more n same h = ap (λ s. pairs_from s 0 more) (sym same)
one_more t id (Some v) more n same h =
    let pair : List ℕ = varint_bytes (setting_number id) ++ varint_bytes v in
    pair_in_front t (pair ++ more) (record { id = setting_number id; value = v; len = length pair }) (sym (pair_again (setting_number id) v more (number_small id) h))
    (omega (arith, varint_not_empty (setting_number id) (number_small id), length-append (varint_bytes (setting_number id)) (varint_bytes v))) (omega (arith, length-append pair more))
    ∙ ap (λ r. r >>= (λ s. pairs_from s 0 (drop (length pair) (pair ++ more)))) (with_new_pair t id v n)
    ∙ ap (λ bs. pairs_from (with_setting id (Some v) t) 0 bs) (drop_at pair more (length pair) refl)

pub all_again : (s : Settings) → AreSmall s → settings_of (settings_bytes s) ≡ Ok s
unfolding pairs_from
all_again s h =
    one_more no_settings QPackMaxTableCapacity s.qpack_max_table_capacity _ refl refl h.qpack_max_table_capacity
    ∙ one_more _ MaxFieldSectionSize s.max_field_section_size _ refl refl h.max_field_section_size
    ∙ one_more _ QPackBlockedStreams s.qpack_blocked_streams _ refl refl h.qpack_blocked_streams
    ∙ one_more _ EnableConnectProtocol s.enable_connect_protocol _ refl refl h.enable_connect_protocol
    ∙ one_more _ H3Datagram s.h3_datagram _ refl refl h.h3_datagram
    ∙ one_more _ EnableWebTransport s.enable_webtransport _ refl refl h.enable_webtransport
    ∙ one_more _ WebTransportMaxSessions s.webtransport_max_sessions [] refl refl h.webtransport_max_sessions

pub settings_again : (s : Settings) (bytes : List ℕ) → bytes ≡ settings_bytes s → AreSmall s → settings_of bytes ≡ Ok s
settings_again s bytes e h = ap settings_of e ∙ all_again s h
