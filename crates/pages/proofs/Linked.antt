-- The table of a queue, with 4,096 as the end mark, and what each step makes of it. Assumes nothing.
use Rattle.std.proofs.Common.{◌≡◌, ℕ, zero, suc, ◌+◌, ◌-◌, ◌<◌, true, false, not, eqb, List, [], ◌∷◌, ◌++◌, length, Some, get_or, set, vec_len, vec_items, sym, refl, ap, subst, ◌∙◌, arith}
use Rattle.std.proofs.lemmas.List.{get_or-map, map-set, set-get_or, length-map, length-set, length_push}
use Rattle.std.proofs.lemmas.Bool.Decides.{nat_tests}
use Rattle.pages.specs.declared.queue.Link.{Link}
use Rattle.pages.specs.declared.queue.PageQueue.TheInside.{Inside}
use Rattle.pages.specs.Lists.{has, without, first, rest, joins}
use Rattle.pages.specs.Links.{link, nexts, prevs, walk}
use Rattle.pages.specs.Queue.{pages_of, IsQueue}
use Rattle.pages.proofs.ListLaws.{has_small, has_large, has_push, without_absent, sound_push, has_without, sound_without, length_without}
use Rattle.pages.proofs.LinkLaws.{Strung, link_sets, forth_within, back_within, leads_on, forth_set, back_set, forth_leave, back_leave, forth_join, back_join, walk_chained, length_walk}

-- an entry of the table, read, and with one of its links written

module _ (ls : List Link) (i : ℕ) (l : Link) (m : i < length ls) (e : l ≡ get_or ls i l) where
  pub next_read : l.next ≡ link (nexts ls) i
  next_read = ap (λ k. k.next) e ∙ sym (get_or-map (λ k. k.next) ls i l 0 m)

  pub prev_read : l.prev ≡ link (prevs ls) i
  prev_read = ap (λ k. k.prev) e ∙ sym (get_or-map (λ k. k.prev) ls i l 0 m)

  next_written : (v : ℕ) → (nexts (set ls i (record { prev = l.prev; next = v })) ≡ set (nexts ls) i v) × (prevs (set ls i (record { prev = l.prev; next = v })) ≡ prevs ls)
  next_written v = (
    map-set (λ k. k.next) ls i (record { prev = l.prev; next = v }),
    map-set (λ k. k.prev) ls i (record { prev = l.prev; next = v }) ∙ ap (set (prevs ls) i) prev_read ∙ set-get_or (prevs ls) i 0,
  )

  prev_written : (v : ℕ) → (nexts (set ls i (record { prev = v; next = l.next })) ≡ nexts ls) × (prevs (set ls i (record { prev = v; next = l.next })) ≡ set (prevs ls) i v)
  prev_written v = (
    map-set (λ k. k.next) ls i (record { prev = v; next = l.next }) ∙ ap (set (nexts ls) i) next_read ∙ set-get_or (nexts ls) i 0,
    map-set (λ k. k.prev) ls i (record { prev = v; next = l.next }),
  )

-- the links lead through xs, and every other page is linked to itself
pub record Linked (ns ps xs : List ℕ) : Type 0 where
  pub forths : length ns ≡ 4097
  pub backs : length ps ≡ 4097
  pub chain : Strung ns ps 4096 xs 4096
  pub alone : (q : ℕ) → q < 4096 → has q xs ≡ false → link ns q ≡ q

module _ (ns ps xs : List ℕ) (t : Linked ns ps xs) where
  outside : (q : ℕ) → q < 4096 → eqb (link ns q) q ≡ not (has q xs)
  outside q l =
      let z = t.alone q l in
      let w : has q xs ≡ true → eqb (link ns q) q ≡ false = leads_on ns ps 4096 q 4096 xs t.chain in grind (arith, nat_tests)

  small : (q : ℕ) → has q (4096 ∷ xs) ≡ true → q < 4097
  small q h = let l : has q xs ≡ true → q < 4096 = has_small q xs t.chain.fits in grind (arith, nat_tests)

  next_small : (q : ℕ) → has q (4096 ∷ xs) ≡ true → link ns q < 4097
  next_small q h = small (link ns q) (forth_within ns ps 4096 q 4096 xs t.chain h)

  prev_small : (q : ℕ) → has q (4096 ∷ xs) ≡ true → link ps q < 4097
  prev_small q h = small (link ps q) (back_within ns ps 4096 q 4096 xs t.chain h)

  leaves : (p u v : ℕ) → has p xs ≡ true → u ≡ link ps p → v ≡ link ns p → Linked (set (set ns u v) p p) (set (set ps v u) p p) (without p xs)
  leaves p u v h d e =
      let g : has p (4096 ∷ xs) ≡ true = grind (arith, nat_tests) in
      let m = has_small p xs t.chain.fits h in
      let i = prev_small p g in
      let j = next_small p g in
      let w = back_within ns ps 4096 p 4096 xs t.chain g in
      let n = length-set ns u v in
      let o = length-set ps v u in
      let s = sound_without p xs t.chain.fits in
      let k = has_without p p xs t.chain.fits in
      record {
        forths = simp length-set t.forths;
        backs = simp length-set t.backs;
        chain = record {
          forth =
              forth_set (set ns u v) p p 4096 (without p xs) 4096 (omega arith) (grind (arith, nat_tests))
              ∙ rw (d, e) (forth_leave ns ps 4096 p 4096 xs t.chain h (omega arith));
          back =
              back_set (set ps v u) p p 4096 (without p xs) 4096 (omega arith) (grind (arith, nat_tests))
              ∙ rw (d, e) (back_leave ns ps 4096 p 4096 xs t.chain h (omega arith));
          fits = s;
          front = has_large 4096 (without p xs) s (omega arith);
          end = has_large 4096 (without p xs) s (omega arith);
        };
        alone = λ q l f.
            let r = has_without q p xs t.chain.fits in
            let z = t.alone q l in
            let a = link_sets ns u v p p q (omega arith) (omega arith) in grind (arith, nat_tests);
      }

  comes : (p u : ℕ) → p < 4096 → has p xs ≡ false → u ≡ link ps 4096 → Linked (set (set ns p 4096) u p) (set (set ps p u) 4096 p) (xs ++ p ∷ [])
  comes p u m h d =
      let g : has 4096 (4096 ∷ xs) ≡ true = grind (arith, nat_tests) in
      let i = prev_small 4096 g in
      let w = back_within ns ps 4096 4096 4096 xs t.chain g in
      let s = sound_push p xs t.chain.fits m h in
      record {
        forths = simp length-set t.forths;
        backs = simp length-set t.backs;
        chain = record {
          forth = rw d (forth_join ns ps 4096 p 4096 xs t.chain (grind (arith, nat_tests)) (omega arith) (omega arith));
          back = rw d (back_join ns ps 4096 p 4096 xs t.chain (grind (arith, nat_tests)) (omega arith) (omega arith));
          fits = s;
          front = has_large 4096 (xs ++ p ∷ []) s (omega arith);
          end = has_large 4096 (xs ++ p ∷ []) s (omega arith);
        };
        alone = λ q l f.
            let k = has_push q p xs in
            let z = t.alone q l in
            let a = link_sets ns p 4096 u p q (omega arith) (omega arith) in grind (arith, nat_tests);
      }

-- a walk of n steps passes xs, and the table is that of a queue of them
pub record Walks (ls : List Link) (n : ℕ) (xs : List ℕ) : Type 0 where
  pub same : walk n (nexts ls) 4096 ≡ xs
  pub chain : Strung (nexts ls) (prevs ls) 4096 (walk n (nexts ls) 4096) 4096
  pub outside : (q : ℕ) → q < 4096 → eqb (link (nexts ls) q) q ≡ not (has q (walk n (nexts ls) 4096))

walks : (ls : List Link) (n : ℕ) (ns ps xs : List ℕ) → nexts ls ≡ ns → prevs ls ≡ ps → Linked ns ps xs → n ≡ length xs → Walks ls n xs
walks ls n ns ps xs i j t e =
    let s : walk n (nexts ls) 4096 ≡ xs = rw (i, e) (walk_chained ns 4096 xs 4096 t.chain.forth) in
    record { same = s; chain = rw (s, i, j) t.chain; outside = rw (s, i) (outside _ _ _ t) }

-- no page, where each entry is linked to itself
pub none_linked : (ls : List Link) → length ls ≡ 4097 → ((q : ℕ) → q < 4097 → get_or ls q (record { prev = q; next = q }) ≡ record { prev = q; next = q }) → Walks ls 0 []
none_linked ls n e =
    let f : (q : ℕ) → q < 4097 → q ≡ link (nexts ls) q = λ q l. next_read ls q (record { prev = q; next = q }) (omega arith) (sym (e q l)) in
    let b = prev_read ls 4096 (record { prev = 4096; next = 4096 }) (omega arith) (sym (e 4096 (omega arith))) in
    let a = f 4096 (omega arith) in
    walks ls 0 _ _ [] refl refl
    record {
      forths = length-map ls (λ k. k.next) ∙ n;
      backs = length-map ls (λ k. k.prev) ∙ n;
      chain = record { forth = grind (arith, nat_tests); back = grind (arith, nat_tests); fits = refl; front = refl; end = refl };
      alone = λ q l _. sym (f q (omega arith));
    }
    refl

-- the first page of a walk is the first link
starts : (n : ℕ) (ns : List ℕ) (a p : ℕ) → 0 < n → p ≡ link ns a → (Some p ≡ first (walk n ns a)) × (without p (walk n ns a) ≡ rest (walk n ns a))
starts zero ns a p l e = absurd (omega arith)
starts (suc n) ns a p l e = (ap Some e, grind (arith, nat_tests))

-- of a queue that holds xs
module _ (q : Inside) (xs : List ℕ) (k : IsQueue q) (v : pages_of q ≡ xs) where
  linked : Linked (nexts (vec_items q.links)) (prevs (vec_items q.links)) xs
  linked =
      let s = vec_items q.links in
      let o = has_large 4096 (pages_of q) k.fits (omega arith) in
      subst (Linked (nexts s) (prevs s)) v
      record {
        forths = omega (arith, length-map s (λ l. l.next), k.entries);
        backs = omega (arith, length-map s (λ l. l.prev), k.entries);
        chain = record { forth = k.forth; back = k.back; fits = k.fits; front = o; end = o };
        alone = λ p l f. let z = k.outside p l in grind (arith, nat_tests);
      }

  pub count : length xs ≡ q.len
  count = ap length (sym v) ∙ length_walk q.len (nexts (vec_items q.links)) 4096

  -- where a link leads is in the table: l was read at p
  within : (p : ℕ) (l : Link) → has p (4096 ∷ xs) ≡ true → l ≡ get_or (vec_items q.links) p l → (l.prev < 4097) × (l.next < 4097)
  within p l h e =
      let s = small _ _ _ linked p h in
      let n = k.entries in
      let x = prev_read (vec_items q.links) p l (omega arith) e in
      let y = next_read (vec_items q.links) p l (omega arith) e in
      (omega (arith, prev_small _ _ _ linked p h), omega (arith, next_small _ _ _ linked p h))

  pub prev_within : (p : ℕ) (l : Link) → l ≡ get_or (vec_items q.links) p l → true ≡ has p xs → l.prev < vec_len q.links
  prev_within p l e h = let w = within p l (grind (arith, nat_tests)) e in let n = k.entries in omega arith

  pub next_within : (p : ℕ) (l : Link) → l ≡ get_or (vec_items q.links) p l → true ≡ has p xs → l.next < vec_len q.links
  next_within p l e h = let w = within p l (grind (arith, nat_tests)) e in let n = k.entries in omega arith

  pub last_within : (l : Link) → l ≡ get_or (vec_items q.links) 4096 l → l.prev < vec_len q.links
  last_within l e = let w = within 4096 l (grind (arith, nat_tests)) e in let n = k.entries in omega arith

  -- the first page stands behind the end mark: l was read there
  pub front : (l : Link) → l ≡ get_or (vec_items q.links) 4096 l → 0 < q.len → (Some l.next ≡ first xs) × (without l.next xs ≡ rest xs)
  front l e f =
      let n = k.entries in
      let s = starts q.len (nexts (vec_items q.links)) 4096 l.next f (next_read (vec_items q.links) 4096 l (omega arith) e) in
      rw v at s

  -- a page that leaves can join again
  pub rejoins : (p : ℕ) → true ≡ has p xs → joins p (without p xs) ≡ true
  rejoins p h =
      let l = has_small p xs linked.chain.fits (sym h) in
      let a = has_without p p xs linked.chain.fits in
      let n = length_without p xs (sym h) in
      let m = count in
      let f = k.few in grind (arith, nat_tests)

  -- p leaves, where l was read at p
  pub gone : (p : ℕ) (l a b : Link) → true ≡ has p xs → l ≡ get_or (vec_items q.links) p l →
      a ≡ get_or (vec_items q.links) l.prev a →
      b ≡ get_or (set (vec_items q.links) l.prev (record { prev = a.prev; next = l.next })) l.next b →
      Walks (set (set (set (vec_items q.links) l.prev (record { prev = a.prev; next = l.next })) l.next (record { prev = l.prev; next = b.next })) p (record { prev = p; next = p })) (q.len - 1) (without p xs)
  gone p l a b h e f g =
      let s = vec_items q.links in
      let t : List Link = set s l.prev (record { prev = a.prev; next = l.next }) in
      let u : List Link = set t l.next (record { prev = l.prev; next = b.next }) in
      let i = has_small p xs linked.chain.fits (sym h) in
      let w = within p l (grind (arith, nat_tests)) e in
      let r = k.entries in
      let x = next_written s l.prev a (omega arith) f l.next in
      let y = prev_written t l.next b (simp length-set (omega arith)) g l.prev in
      let n = length_without p xs (sym h) in
      let m = count in
      walks _ _ _ _ _
      (map-set (λ k. k.next) u p (record { prev = p; next = p }) ∙ ap (λ z. set z p p) (y.0 ∙ x.0))
      (map-set (λ k. k.prev) u p (record { prev = p; next = p }) ∙ ap (λ z. set z p p) (y.1 ∙ ap (λ z. set z l.next l.prev) x.1))
      (leaves _ _ _ linked p l.prev l.next (sym h) (prev_read s p l (omega arith) e) (next_read s p l (omega arith) e))
      (omega arith)

  -- p joins at the end, where l was read at the end mark
  pub come : (p : ℕ) (l a b : Link) → true ≡ joins p xs → l ≡ get_or (vec_items q.links) 4096 l →
      a ≡ get_or (set (vec_items q.links) p (record { prev = l.prev; next = 4096 })) l.prev a →
      b ≡ get_or (set (set (vec_items q.links) p (record { prev = l.prev; next = 4096 })) l.prev (record { prev = a.prev; next = p })) 4096 b →
      Walks (set (set (set (vec_items q.links) p (record { prev = l.prev; next = 4096 })) l.prev (record { prev = a.prev; next = p })) 4096 (record { prev = p; next = b.next })) (q.len + 1) (xs ++ p ∷ [])
  come p l a b h e f g =
      let s = vec_items q.links in
      let t : List Link = set s p (record { prev = l.prev; next = 4096 }) in
      let u : List Link = set t l.prev (record { prev = a.prev; next = p }) in
      let w = within 4096 l (grind (arith, nat_tests)) e in
      let r = k.entries in
      let x = next_written t l.prev a (simp length-set (omega arith)) f p in
      let y = prev_written u 4096 b (simp length-set (omega arith)) g p in
      let n = length_push xs p in
      let m = count in
      walks _ _ _ _ _
      (y.0 ∙ x.0 ∙ ap (λ z. set z l.prev p) (map-set (λ k. k.next) s p (record { prev = l.prev; next = 4096 })))
      (y.1 ∙ ap (λ z. set z 4096 p) (x.1 ∙ map-set (λ k. k.prev) s p (record { prev = l.prev; next = 4096 })))
      (comes _ _ _ linked p l.prev (grind (arith, nat_tests)) (grind (arith, nat_tests)) (prev_read s 4096 l (omega arith) e))
      (omega arith)

-- what the goals of a queue's functions ask for
pub ruleset queue_laws = (count, prev_within, next_within, last_within, front, rejoins, gone, come, has_large, without_absent)
