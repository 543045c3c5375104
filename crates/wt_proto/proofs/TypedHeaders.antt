-- The header of a stream is its type, after which a session's id stands for one type: it is read from its own bytes, and stays under more.
use Rattle.std.proofs.Common.{◌≡◌, ℕ, ◌+◌, ◌≤◌, Bool, true, false, List, [], ◌++◌, length, drop, Option, Some, None, ◌⊎◌, inl, inr, cond, refl, sym, ap, ◌∙◌, arith}
use Rattle.std.proofs.lemmas.List.{drop-append-le, length-drop}
use Rattle.wt_wire.specs.Varint.{varint_at}
use Rattle.wt_wire.proofs.VarintLaws.{varint_at-front, varint_at-more, varint_at-within}
use Rattle.wt_proto.proofs.FrameLaws.{IsReader}

-- a choice makes a header that ends here whatever the one with a session's id is, or takes that one
abbrev pub Chooses : {A : Type 0} → ℕ → (Option (A × ℕ) → Option (A × ℕ)) → Type 0
Chooses {A} offset choose = ((made : A) × ((x : Option (A × ℕ)) → choose x ≡ Some (made, offset))) ⊎ ((x : Option (A × ℕ)) → choose x ≡ x)

module _ {A : Type 0} (offset : ℕ) where
  pub alone : (made : A) → Chooses offset (λ x. Some (made, offset))
  alone made = inl (made, λ x. refl)

  pub goes-on : Chooses {A = A} offset (λ x. x)
  goes-on = inr (λ x. refl)

  -- two choices, by a test
  pub by : (b : Bool) {f g : Option (A × ℕ) → Option (A × ℕ)} → Chooses offset f → Chooses offset g → Chooses offset (λ x. cond b (f x) (g x))
  by true c d = c
  by false c d = d

  -- what is chosen is chosen again, where the one with a session's id is
  again : (f : Option (A × ℕ) → Option (A × ℕ)) → Chooses offset f → (x y : Option (A × ℕ)) (p : A × ℕ) → f x ≡ Some p → (x ≡ Some p → y ≡ Some p) → f y ≡ Some p
  again f (inl c) x y p e more = c.1 y ∙ sym (c.1 x) ∙ e
  again f (inr c) x y p e more = c y ∙ more (sym (c x) ∙ e)

  size-of : (made : A) (p : A × ℕ) → Some (made, offset) ≡ Some p → offset ≡ p.1
  size-of made p e = let pair : ◌≡◌ {A = A × ℕ} (made, offset) p = cc in ap (λ (q : A × ℕ). q.1) pair

  -- what is chosen ends from here on, and within a bound
  ends : (f : Option (A × ℕ) → Option (A × ℕ)) → Chooses offset f → (bound : ℕ) (x : Option (A × ℕ)) (p : A × ℕ) → f x ≡ Some p → offset ≤ bound → (x ≡ Some p → (offset ≤ p.1) × (p.1 ≤ bound)) → (offset ≤ p.1) × (p.1 ≤ bound)
  ends f (inl c) bound x p e le more = let size = size-of c.0 p (sym (c.1 x) ∙ e) in (omega (arith, size), omega (arith, size))
  ends f (inr c) bound x p e le more = more (sym (c x) ∙ e)

-- a header after its type, and with a session's id after that
pub record IsTyped {A : Type 0} (session : ℕ → Option (ℕ × ℕ) → Option (A × ℕ)) (by-type : ℕ → ℕ → Option (A × ℕ) → Option (A × ℕ)) (typed : List ℕ → Option (ℕ × ℕ) → Option (A × ℕ)) : Type 0 where
  pub made : ℕ → ℕ × ℕ → A
  pub no-session : (offset : ℕ) → session offset None ≡ None
  pub a-session : (offset : ℕ) (s : ℕ × ℕ) → session offset (Some s) ≡ Some (made offset s, offset + s.1)
  pub no-type : (xs : List ℕ) → typed xs None ≡ None
  pub a-type : (xs : List ℕ) (t : ℕ × ℕ) → typed xs (Some t) ≡ by-type t.0 t.1 (session t.1 (varint_at (drop t.1 xs)))
  pub chooses : (kind offset : ℕ) → Chooses offset (by-type kind offset)

module _ {A : Type 0} (session : ℕ → Option (ℕ × ℕ) → Option (A × ℕ)) (by-type : ℕ → ℕ → Option (A × ℕ) → Option (A × ℕ)) (typed : List ℕ → Option (ℕ × ℕ) → Option (A × ℕ)) (is : IsTyped session by-type typed) where
  session-size : (offset : ℕ) (s : ℕ × ℕ) (p : A × ℕ) → session offset (Some s) ≡ Some p → offset + s.1 ≡ p.1
  session-size offset s p f = size-of (offset + s.1) (is.made offset s) p (sym (is.a-session offset s) ∙ f)

  -- a header with a session's id ends from here on, and within the bytes
  session-ends : (offset : ℕ) (xs : List ℕ) (s : Option (ℕ × ℕ)) (p : A × ℕ) → varint_at xs ≡ s → session offset s ≡ Some p → (offset ≤ p.1) × (p.1 ≤ offset + length xs)
  session-ends offset xs None p e f = absurd (let none = is.no-session offset in cc)
  session-ends offset xs (Some s) p e f = let size = session-size offset s p f in (omega (arith, size), omega (arith, size, varint_at-within xs s e))

  -- it stays under more bytes
  session-more : (offset : ℕ) (xs ys : List ℕ) (s : Option (ℕ × ℕ)) (p : A × ℕ) → varint_at xs ≡ s → session offset s ≡ Some p → session offset (varint_at (xs ++ ys)) ≡ Some p
  session-more offset xs ys None p e f = absurd (let none = is.no-session offset in cc)
  session-more offset xs ys (Some s) p e f = rw (varint_at-more xs ys s e) f

  -- and is read from its own bytes
  session-front : (offset : ℕ) (xs ys : List ℕ) (s : Option (ℕ × ℕ)) (p : A × ℕ) → varint_at (xs ++ ys) ≡ s → session offset s ≡ Some p → p.1 ≤ offset + length xs → session offset (varint_at xs) ≡ Some p
  session-front offset xs ys None p e f le = absurd (let none = is.no-session offset in cc)
  session-front offset xs ys (Some s) p e f le =
      let within : s.1 ≤ length xs = omega (arith, session-size offset s p f) in
      rw (varint_at-front xs ys s e within) f

  -- it ends after its type, and within the bytes
  type-ends : (xs : List ℕ) (t : ℕ × ℕ) (p : A × ℕ) → varint_at xs ≡ Some t → typed xs (Some t) ≡ Some p → (t.1 ≤ p.1) × (p.1 ≤ length xs)
  type-ends xs t p e f =
      let within = varint_at-within xs t e in
      ends t.1 (by-type t.0 t.1) (is.chooses t.0 t.1) (length xs) (session t.1 (varint_at (drop t.1 xs))) p (sym (is.a-type xs t) ∙ f) within.2
      (λ h. let more = session-ends t.1 (drop t.1 xs) (varint_at (drop t.1 xs)) p refl h in (more.0, omega (arith, more, within, length-drop t.1 xs)))

  typed-ends : (xs : List ℕ) (t : Option (ℕ × ℕ)) (p : A × ℕ) → varint_at xs ≡ t → typed xs t ≡ Some p → (1 ≤ p.1) × (p.1 ≤ length xs)
  typed-ends xs None p e f = absurd (let none = is.no-type xs in cc)
  typed-ends xs (Some t) p e f = let size = type-ends xs t p e f in (omega (arith, size, varint_at-within xs t e), size.1)

  -- it stays under more bytes
  typed-more : (xs ys : List ℕ) (t : Option (ℕ × ℕ)) (p : A × ℕ) → varint_at xs ≡ t → typed xs t ≡ Some p → typed (xs ++ ys) (varint_at (xs ++ ys)) ≡ Some p
  typed-more xs ys None p e f = absurd (let none = is.no-type xs in cc)
  typed-more xs ys (Some t) p e f =
      rw (varint_at-more xs ys t e, is.a-type (xs ++ ys) t, drop-append-le t.1 xs ys (varint_at-within xs t e).2)
      (again t.1 (by-type t.0 t.1) (is.chooses t.0 t.1) (session t.1 (varint_at (drop t.1 xs))) (session t.1 (varint_at (drop t.1 xs ++ ys))) p (sym (is.a-type xs t) ∙ f)
      (λ h. session-more t.1 (drop t.1 xs) ys (varint_at (drop t.1 xs)) p refl h))

  -- and is read from its own bytes
  typed-front : (xs ys : List ℕ) (t : Option (ℕ × ℕ)) (p : A × ℕ) → varint_at (xs ++ ys) ≡ t → typed (xs ++ ys) t ≡ Some p → p.1 ≤ length xs → typed xs (varint_at xs) ≡ Some p
  typed-front xs ys None p e f le = absurd (let none = is.no-type (xs ++ ys) in cc)
  typed-front xs ys (Some t) p e f le =
      let within : t.1 ≤ length xs = omega (arith, type-ends (xs ++ ys) t p e f) in
      let rest : drop t.1 (xs ++ ys) ≡ drop t.1 xs ++ ys = drop-append-le t.1 xs ys within in
      let whole = ap (λ zs. by-type t.0 t.1 (session t.1 (varint_at zs))) (sym rest) ∙ sym (is.a-type (xs ++ ys) t) ∙ f in
      rw (varint_at-front xs ys t e within, is.a-type xs t)
      (again t.1 (by-type t.0 t.1) (is.chooses t.0 t.1) (session t.1 (varint_at (drop t.1 xs ++ ys))) (session t.1 (varint_at (drop t.1 xs))) p whole
      (λ h. session-front t.1 (drop t.1 xs) ys (varint_at (drop t.1 xs ++ ys)) p refl h (omega (arith, length-drop t.1 xs))))

  -- a header is read from its own bytes, and stays under more
  pub header-reader : IsReader (λ xs. typed xs (varint_at xs))
  unfolding varint_at
  header-reader = record {
    nothing = is.no-type [];
    more = λ xs ys p e. typed-more xs ys (varint_at xs) p refl e;
    front = λ xs ys p e le. typed-front xs ys (varint_at (xs ++ ys)) p refl e le;
    some = λ xs p e. (typed-ends xs (varint_at xs) p refl e).0;
  }

  -- a header ends within the bytes
  pub header-within : (xs : List ℕ) (p : A × ℕ) → typed xs (varint_at xs) ≡ Some p → p.1 ≤ length xs
  header-within xs p e = (typed-ends xs (varint_at xs) p refl e).1
