-- What an endpoint keeps tells which turn may come, and goes on with the histories.
use Rattle.std.proofs.Common.{◌≡◌, ◌+◌, ◌<◌, ◌≤◌, ◌==◌, ◌&&◌, ◌||◌, ◌∷◌, ◌++◌, Bool, List, [], add-zero, ap, cond, arith, false, get_or, length, refl, set, subst, suc, sym, take, true, zero, ◌∙◌, ℕ}
use Rattle.std.proofs.lemmas.Bool.Decides.{nat_tests}
use Rattle.std.specs.List.{fold}
use Rattle.std.specs.Prelude.{IfOk, IsTrue, count_by, None, OnOk, Ok, Err, Option, Result, Some, nat_lt, slice_get}
use Rattle.std.proofs.lemmas.Bool.{eqb-true}
use Rattle.std.proofs.lemmas.List.Sums.{count_by_more_no, count_by_more_yes}
use Rattle.std.proofs.lemmas.Option.{slice_get_past}
use Rattle.wt_endpoint.proofs.Apart.{and-left, and-right}
use Rattle.wt_endpoint.proofs.ByNumber.{get-past}
use Rattle.wt_endpoint.proofs.Histories.{begun-after}
use Rattle.wt_endpoint.proofs.Kept.{live-is}
use Rattle.wt_endpoint.specs.Connections.{AllKeep, ConnectionsState, KeepsBegun, Refines, StandsFor, after_accept, accept_now, is_live_now, live_now, lives_by, may_connect, may_take, takes}
use Rattle.wt_endpoint.specs.Endpoints.{AllMayCome, EndpointHistory, accept_answer, connection_history, endpoint_after, endpoint_from, endpoint_history, is_live, live_count, may_come_next, may_connect_next, may_name, may_start, no_connections, put_history}
use Rattle.wt_endpoint.specs.declared.turn.EndpointTurn.{EndpointTurn}
use Rattle.wt_endpoint.specs.declared.turn.EndpointTurn.TheVariants as events
use Rattle.wt_meaning.specs.Calls.{is_living}
use Rattle.wt_meaning.specs.History.{History}
use Rattle.wt_meaning.specs.Lawful.{is_lawful}
use Rattle.wt_meaning.specs.Meaning.{answer_to, history_after}
use Rattle.wt_core.proofs.Histories.{lives_is, may_is}
use Rattle.wt_core.specs.CoreState.{CoreState, KeepsHistory, may_turn}
use Rattle.wt_turn.specs.declared.answer.Answer.{Answer}
use Rattle.wt_turn.specs.declared.turn.Turn.{Turn}
use Rattle.wt_wire.specs.declared.error.OutOfMemory.{OutOfMemory}
use Rattle.wt_wire.specs.declared.lookup.ConnectOutcome.{ConnectOutcome}
use Rattle.wt_wire.specs.declared.side.Side.{Side}

-- ---- cores and histories, by number

some-same : (c d : CoreState) → Some c ≡ Some d → c ≡ d
some-same c d e = ap (λ (o : Option CoreState). elim o [ Some x ↦ x | None ↦ c ]) e

pub same-length : (side : Side) (cs : List CoreState) (hs : List History) → AllKeep side cs hs → length cs ≡ length hs
same-length side [] [] a = refl
same-length side (c ∷ cs) (h ∷ hs) a = ap suc (same-length side cs hs a.1)
same-length side [] (h ∷ hs) a = absurd a
same-length side (c ∷ cs) [] a = absurd a

-- the core at a place keeps the history there
pub kept-at : (side : Side) (cs : List CoreState) (hs : List History) (n : ℕ) (c : CoreState) → AllKeep side cs hs → slice_get cs n ≡ Some c → KeepsBegun side c (get_or hs n [])
kept-at side [] [] n c a e = absurd (cc)
kept-at side (d ∷ cs) (h ∷ hs) zero c a e = subst (λ (x : CoreState). KeepsBegun side x h) (some-same d c e) a.0
kept-at side (d ∷ cs) (h ∷ hs) (suc n) c a e = kept-at side cs hs n c a.1 e
kept-at side [] (h ∷ hs) n c a e = absurd a
kept-at side (d ∷ cs) [] n c a e = absurd a

pub kept-within : (cs : List CoreState) (n : ℕ) (c : CoreState) → slice_get cs n ≡ Some c → nat_lt n (length cs) ≡ true
kept-within [] n c e = absurd (cc)
kept-within (d ∷ cs) zero c e = grind (arith, nat_tests)
kept-within (d ∷ cs) (suc n) c e = let less : nat_lt n (length cs) ≡ true = kept-within cs n c e in grind (arith, nat_tests)

pub kept-past : (cs : List CoreState) (n : ℕ) → slice_get cs n ≡ None → nat_lt n (length cs) ≡ false
kept-past [] n e = grind (arith, nat_tests)
kept-past (d ∷ cs) zero e = absurd (cc)
kept-past (d ∷ cs) (suc n) e = let past : nat_lt n (length cs) ≡ false = kept-past cs n e in grind (arith, nat_tests)

-- one core goes on
pub keep-set : (side : Side) (cs : List CoreState) (hs : List History) (n : ℕ) (c : CoreState) (h : History) → AllKeep side cs hs → n < length cs → KeepsBegun side c h
    → AllKeep side (set cs n c) (put_history hs n h)
keep-set side [] [] n c h a l k = absurd (omega (arith, l))
keep-set side (d ∷ cs) (g ∷ hs) zero c h a l k = (k, a.1)
keep-set side (d ∷ cs) (g ∷ hs) (suc n) c h a l k = (a.0, keep-set side cs hs n c h a.1 (omega (arith, l)) k)
keep-set side [] (g ∷ hs) n c h a l k = absurd a
keep-set side (d ∷ cs) [] n c h a l k = absurd a

-- one more core
pub keep-more : (side : Side) (cs : List CoreState) (hs : List History) (c : CoreState) (h : History) → AllKeep side cs hs → KeepsBegun side c h
    → AllKeep side (cs ++ c ∷ []) (put_history hs (length cs) h)
keep-more side [] [] c h a k = (k, tt)
keep-more side (d ∷ cs) (g ∷ hs) c h a k = (a.0, keep-more side cs hs c h a.1 k)
keep-more side [] (g ∷ hs) c h a k = absurd a
keep-more side (d ∷ cs) [] c h a k = absurd a

-- ---- which turn may come

begun-lawful : (m l : Bool) → m && l ≡ l && (true && m)
begun-lawful true true = refl
begun-lawful true false = refl
begun-lawful false true = refl
begun-lawful false false = refl

next-lawful : (m n l s : Bool) → m && (n && (l && s)) ≡ l && ((false || (n && s)) && m)
next-lawful true true true true = refl
next-lawful true true true false = refl
next-lawful true true false s = refl
next-lawful true false true s = refl
next-lawful true false false s = refl
next-lawful false true true true = refl
next-lawful false true true false = refl
next-lawful false true false s = refl
next-lawful false false true s = refl
next-lawful false false false s = refl

may-take-by : (side : Side) (k : ConnectionsState) (e : EndpointHistory) (n : ℕ) (turn : Turn) (o : Option CoreState) → Refines side k e → slice_get k.cores n ≡ o
    → (may_name side k.accepted n turn && takes side k n turn o) ≡ may_come_next side e (events.Connection n turn)
may-take-by side k e n turn (Some c) r o =
    let kept = kept-at side k.cores e.histories n c r.each o in
    let within : nat_lt n (length e.histories) ≡ true = sym (ap (nat_lt n) (same-length side k.cores e.histories r.each)) ∙ kept-within k.cores n c o in
    let lawful : may_turn c turn ≡ is_lawful side (connection_history e n) turn = may_is side c (connection_history e n) turn kept.keeps in
    rw (lawful, within, r.accepted_is) (begun-lawful (may_name side e.accepted n turn) (is_lawful side (connection_history e n) turn))
may-take-by side k e n turn None r o =
    let counts : length k.cores ≡ length e.histories = same-length side k.cores e.histories r.each in
    let past : nat_lt n (length e.histories) ≡ false = sym (ap (nat_lt n) counts) ∙ kept-past k.cores n o in
    let none : connection_history e n ≡ [] = get-past e.histories n past in
    rw (none, past, counts, r.accepted_is, r.closed_is) (next-lawful (may_name side e.accepted n turn) (n == length e.histories) (is_lawful side [] turn) (may_start e.closed turn))

pub may_take_is : (side : Side) (k : ConnectionsState) (e : EndpointHistory) (n : ℕ) (turn : Turn) → Refines side k e → may_take side k n turn ≡ may_come_next side e (events.Connection n turn)
may_take_is side k e n turn r = may-take-by side k e n turn (slice_get k.cores n) r refl

-- both tests together
pub tests_are : (side : Side) (k : ConnectionsState) (e : EndpointHistory) (n : ℕ) (turn : Turn) (named given : Bool) → Refines side k e → named ≡ may_name side k.accepted n turn → named ≡ true
    → given ≡ takes side k n turn (slice_get k.cores n) → given ≡ may_come_next side e (events.Connection n turn)
tests_are side k e n turn named given r m t g =
    let is_named : may_name side k.accepted n turn ≡ true = sym m ∙ t in
    let both : takes side k n turn (slice_get k.cores n) ≡ may_take side k n turn = rw is_named refl in
    g ∙ both ∙ may_take_is side k e n turn r

lawful-taken : (side : Side) (k : ConnectionsState) (e : EndpointHistory) (n : ℕ) (turn : Turn) → Refines side k e → IsTrue (may_take side k n turn) → is_lawful side (connection_history e n) turn ≡ true
lawful-taken side k e n turn r t = and-left (is_lawful side (connection_history e n) turn) _ (sym (may_take_is side k e n turn r) ∙ t)

-- ---- a turn of a connection that has begun

pub kept-nth : (side : Side) (cs : List CoreState) (hs : List History) (n : ℕ) (d : CoreState) → AllKeep side cs hs → n < length cs → d ≡ get_or cs n d → KeepsBegun side d (get_or hs n [])
kept-nth side [] [] n d a l e = absurd (omega (arith, l))
kept-nth side (c ∷ cs) (h ∷ hs) zero d a l e = subst (λ (x : CoreState). KeepsBegun side x h) (sym e) a.0
kept-nth side (c ∷ cs) (h ∷ hs) (suc n) d a l e = kept-nth side cs hs n d a.1 (omega (arith, l)) e
kept-nth side [] (h ∷ hs) n d a l e = absurd a
kept-nth side (c ∷ cs) [] n d a l e = absurd a

pub turn_answer : (side : Side) (k : ConnectionsState) (e : EndpointHistory) (n : ℕ) (turn : Turn) (d : CoreState) (given : Result Answer OutOfMemory) → Refines side k e → n < length k.cores → d ≡ get_or k.cores n d
    → IsTrue (may_take side k n turn) → ((s : Side) (h : History) → KeepsHistory s d h → is_lawful s h turn ≡ true → IfOk given (λ a. a ≡ answer_to s h turn))
    → IfOk given (λ a. a ≡ answer_to side (connection_history e n) turn)
turn_answer side k e n turn d given r l i t f = f side (connection_history e n) (kept-nth side k.cores e.histories n d r.each l i).keeps (lawful-taken side k e n turn r t)

-- after a lawful turn
begun-on : (side : Side) (h : History) (turn : Turn) (after : CoreState) → is_lawful side h turn ≡ true → KeepsHistory side after (history_after side h turn) → KeepsBegun side after (history_after side h turn)
begun-on side h turn after l k = record { keeps = k; begun = begun-after side h turn l }

pub turn_refines : (side : Side) (k : ConnectionsState) (e : EndpointHistory) (n : ℕ) (turn : Turn) (d after : CoreState) (given : Result Answer OutOfMemory) → Refines side k e → n < length k.cores → d ≡ get_or k.cores n d
    → IsTrue (may_take side k n turn) → ((s : Side) (h : History) → KeepsHistory s d h → is_lawful s h turn ≡ true → OnOk given (KeepsHistory s after (history_after s h turn)))
    → OnOk given (Refines side (record k { cores = set k.cores n after }) (endpoint_after side e (events.Connection n turn)))
turn_refines side k e n turn d after (Ok a) r l i t f =
    let h = connection_history e n in
    let lawful = lawful-taken side k e n turn r t in
    let kept = f side h (kept-nth side k.cores e.histories n d r.each l i).keeps lawful in
    record { each = keep-set side k.cores e.histories n after (history_after side h turn) r.each l (begun-on side h turn after lawful kept); accepted_is = r.accepted_is; closed_is = r.closed_is }
turn_refines side k e n turn d after (Err x) r l i t f = tt

-- ---- the first turn of the next connection

all-of : (side : Side) (k : ConnectionsState) (n : ℕ) (turn : Turn) → IsTrue (may_take side k n turn) → length k.cores ≤ n → ((n == length k.cores) && (is_lawful side [] turn && may_start k.closed turn)) ≡ true
all-of side k n turn t l =
    let none : slice_get k.cores n ≡ None = slice_get_past k.cores n l in
    and-right (may_name side k.accepted n turn) _ (subst (λ (o : Option CoreState). (may_name side k.accepted n turn && takes side k n turn o) ≡ true) none t)

pub next_is : (side : Side) (k : ConnectionsState) (n : ℕ) (turn : Turn) → IsTrue (may_take side k n turn) → length k.cores ≤ n → n ≡ length k.cores
next_is side k n turn t l = eqb-true n (length k.cores) (and-left (n == length k.cores) _ (all-of side k n turn t l))

pub next_lawful : (side : Side) (k : ConnectionsState) (n : ℕ) (turn : Turn) → IsTrue (may_take side k n turn) → length k.cores ≤ n → is_lawful side [] turn ≡ true
next_lawful side k n turn t l = and-left (is_lawful side [] turn) _ (and-right (n == length k.cores) _ (all-of side k n turn t l))

no-history : (hs : List History) (n : ℕ) → length hs ≤ n → get_or hs n [] ≡ []
no-history [] n l = refl
no-history (h ∷ hs) zero l = let none : suc (length hs) ≤ 0 = l in absurd (omega (arith, none))
no-history (h ∷ hs) (suc n) l = no-history hs n (omega (arith, l))

-- the next connection has no history yet
pub next_history : (side : Side) (k : ConnectionsState) (e : EndpointHistory) (n : ℕ) → Refines side k e → length k.cores ≤ n → connection_history e n ≡ []
next_history side k e n r l = let counts = same-length side k.cores e.histories r.each in no-history e.histories n (omega (arith, l, counts))

pub begin_refines : (side : Side) (k m : ConnectionsState) (e : EndpointHistory) (n : ℕ) (turn : Turn) (given : Result Answer OutOfMemory) → Refines side k e → length k.cores ≤ n → n ≡ length k.cores
    → ((hs : List History) → AllKeep side k.cores hs → OnOk given (AllKeep side m.cores (put_history hs (length k.cores) (history_after side [] turn)))) → OnOk given (record m { cores = k.cores } ≡ k)
    → OnOk given (Refines side m (endpoint_after side e (events.Connection n turn)))
begin_refines side k m e n turn (Ok a) r l i f s =
    let history_is : history_after side [] turn ≡ history_after side (connection_history e n) turn = ap (λ (g : History). history_after side g turn) (sym (next_history side k e n r l)) in
    record {
      each = subst (λ (g : History). AllKeep side m.cores (put_history e.histories n g)) history_is (subst (λ j. AllKeep side m.cores (put_history e.histories j (history_after side [] turn))) (sym i) (f e.histories r.each));
      accepted_is = ap (λ (x : ConnectionsState). x.accepted) s ∙ r.accepted_is;
      closed_is = ap (λ (x : ConnectionsState). x.closed) s ∙ r.closed_is;
    }
begin_refines side k m e n turn (Err x) r l i f s = tt

-- a core that took its first turn comes last
pub began : (side : Side) (cs : List CoreState) (hs : List History) (c : CoreState) (turn : Turn) → AllKeep side cs hs → is_lawful side [] turn ≡ true → KeepsHistory side c (history_after side [] turn)
    → AllKeep side (cs ++ c ∷ []) (put_history hs (length cs) (history_after side [] turn))
began side cs hs c turn a l k = keep-more side cs hs c (history_after side [] turn) a (begun-on side [] turn c l k)

-- ---- how many are established and open

live-from : (side : Side) (a : ℕ) (cs : List CoreState) (hs : List History) → AllKeep side cs hs
    → fold (λ n c. n + cond (is_live_now c) 1 0) a cs ≡ fold (λ n h. n + cond (is_live h) 1 0) a hs
live-from side a [] [] k = refl
live-from side a (c ∷ cs) (h ∷ hs) k =
    ap (λ b. fold (λ n x. n + cond (is_live_now x) 1 0) (a + cond b 1 0) cs) (live-is side c h k.0.keeps) ∙ live-from side (a + cond (is_live h) 1 0) cs hs k.1
live-from side a [] (h ∷ hs) k = absurd k
live-from side a (c ∷ cs) [] k = absurd k

pub live_is : (side : Side) (k : ConnectionsState) (e : EndpointHistory) → Refines side k e → live_now k ≡ live_count e
live_is side k e r = live-from side 0 k.cores e.histories r.each

-- one core more is looked at
pub live_more : (cs : List CoreState) (n : ℕ) (d : CoreState) (count later : ℕ) (live : Bool) → n < length cs → d ≡ get_or cs n d → count ≡ count_by is_live_now (take n cs) → live ≡ is_live_now d
    → later ≡ count + cond live 1 0 → later ≡ count_by is_live_now (take (n + 1) cs)
live_more cs n d count later true l i e f g =
    g ∙ ap (λ k. k + 1) e ∙ sym (count_by_more_yes is_live_now cs n d l (ap is_live_now (sym i) ∙ sym f))
live_more cs n d count later false l i e f g =
    g ∙ add-zero count ∙ e ∙ sym (count_by_more_no is_live_now cs n d l (ap is_live_now (sym i) ∙ sym f))

pub live_within : (count n later : ℕ) (live : Bool) → count ≤ n → later ≡ count + cond live 1 0 → later ≤ n + 1
live_within count n later true l e = omega (arith, l, e)
live_within count n later false l e = omega (arith, l, e)

-- ---- which sessions live

lives-at : (side : Side) (k : ConnectionsState) (e : EndpointHistory) (n s : ℕ) (o : Option CoreState) → Refines side k e → slice_get k.cores n ≡ o → lives_by s o ≡ is_living side (connection_history e n) s
lives-at side k e n s (Some c) r o = lives_is side c (connection_history e n) s (kept-at side k.cores e.histories n c r.each o).keeps
lives-at side k e n s None r o =
    let counts : length k.cores ≡ length e.histories = same-length side k.cores e.histories r.each in
    let none : connection_history e n ≡ [] = get-past e.histories n (sym (ap (nat_lt n) counts) ∙ kept-past k.cores n o) in
    rw none refl

pub lives_are : (side : Side) (k : ConnectionsState) (e : EndpointHistory) (n s : ℕ) → Refines side k e → lives_by s (slice_get k.cores n) ≡ is_living side (connection_history e n) s
lives_are side k e n s r = lives-at side k e n s (slice_get k.cores n) r refl

-- ---- connects and accepts

pub may_connect_is : (side : Side) (k : ConnectionsState) (e : EndpointHistory) (outcome : ConnectOutcome) → Refines side k e → may_connect k outcome ≡ may_connect_next e outcome
may_connect_is side k e outcome r = rw (r.closed_is, same-length side k.cores e.histories r.each) refl

pub accept_is : (side : Side) (k : ConnectionsState) (e : EndpointHistory) → Refines side k e → accept_now k ≡ accept_answer e
accept_is side k e r = rw (r.closed_is, r.accepted_is, same-length side k.cores e.histories r.each) refl

pub accept_refines : (side : Side) (k : ConnectionsState) (e : EndpointHistory) → Refines side k e → Refines side (after_accept k) (endpoint_after side e events.Accept)
accept_refines side k e r = record { each = r.each; accepted_is = rw (r.closed_is, r.accepted_is, same-length side k.cores e.histories r.each) refl; closed_is = r.closed_is }

-- ---- one turn more

may-come-more : (side : Side) (e : EndpointHistory) (all : List EndpointTurn) (turn : EndpointTurn) → AllMayCome side e all → may_come_next side (endpoint_from side e all) turn ≡ true → AllMayCome side e (all ++ turn ∷ [])
may-come-more side e [] turn c m = (m, tt)
may-come-more side e (t ∷ all) turn c m = (c.0, may-come-more side (endpoint_after side e t) all turn c.1 m)

from-more : (side : Side) (e : EndpointHistory) (all : List EndpointTurn) (turn : EndpointTurn) → endpoint_from side e (all ++ turn ∷ []) ≡ endpoint_after side (endpoint_from side e all) turn
from-more side e [] turn = refl
from-more side e (t ∷ all) turn = from-more side (endpoint_after side e t) all turn

-- what stands for a list of turns stands for one turn more after it
pub stands_more : (side : Side) (k m : ConnectionsState) (all : List EndpointTurn) (turn : EndpointTurn) → StandsFor side k all → may_come_next side (endpoint_history side all) turn ≡ true
    → Refines side m (endpoint_after side (endpoint_history side all) turn) → StandsFor side m (all ++ turn ∷ [])
stands_more side k m all turn s c r = record {
  may_come = may-come-more side no_connections all turn s.may_come c;
  refines = subst (Refines side m) (sym (from-more side no_connections all turn)) r;
}
