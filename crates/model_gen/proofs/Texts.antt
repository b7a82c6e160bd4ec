-- The texts of the parts of a campus, piece by piece.
use Rattle.std.proofs.Common.{◌≡◌, ℕ, ◌+◌, ◌%◌, ◌^◌, ◌<◌, ◌≤◌, List, [], ◌∷◌, ◌++◌, refl, ap, ◌∙◌, arith, append_assoc, append-nil, Bool, false, nat_lt, if◌then◌else◌}
use Rattle.std.specs.Prelude.{map, decimal, codes}
use Rattle.std.specs.List.{flat_map}
use Rattle.std.proofs.lemmas.Bool.Decides.{nat_tests}
use Rattle.std.proofs.lemmas.Grind.{flat_map-append}
use Rattle.std.proofs.lemmas.List.Folds.{flat_map-map}
use Rattle.dml_tree.specs.Printing.{blanks}
use Rattle.model_gen.specs.Draws.{delay, server_net}
use Rattle.model_gen.specs.Campus.{text, word, list, lines, numbers, router, hosts, first_link, second_link, net_of, link, delay_text, ring_link, ring_links, pattern_of, traffic, campus_tree, campus_text}
use Rattle.model_gen.proofs.Lines.{IsWordText, list_lines, text_lines, then_word, decimal_is_word}

-- one piece more behind a text
pub onto : {now new text : List ℕ} (piece : List ℕ) → now ≡ text → new ≡ now ++ piece → new ≡ text ++ piece
onto piece before step = step ∙ ap (λ (l : List ℕ). l ++ piece) before

-- ---- a net

abbrev in_net : List ℕ → List ℕ → List ℕ → List ℕ → List ℕ → List ℕ
in_net id r h f s = blanks 2 ++ codes "Net" ++ 32 ∷ 91 ∷ 10 ∷ [] ++ (id ++ (r ++ (h ++ (f ++ s)))) ++ blanks 2 ++ 93 ∷ 10 ∷ []

net_parts : (out a d t b r h f s x e : List ℕ) → out ++ (a ++ ((d ++ t ++ b) ++ (r ++ (h ++ (f ++ s)))) ++ x ++ e) ≡ (((((((out ++ (a ++ d)) ++ t) ++ b) ++ r) ++ h) ++ f) ++ s) ++ (x ++ e)
net_parts out a d t b r h f s x e = simp append_assoc refl

abbrev pub net_begin : List ℕ
net_begin = codes "  Net [" ++ 10 ∷ codes "    id "

pub net_is : (out : List ℕ) (i : ℕ) → i < 2 ^ 64 → out ++ lines 2 (net_of i)
    ≡ (((((((out ++ net_begin) ++ decimal i) ++ 10 ∷ []) ++ lines 4 router) ++ lines 4 hosts) ++ lines 4 first_link) ++ lines 4 second_link) ++ (codes "  ]" ++ 10 ∷ [])
unfolding net_of
net_is out i h =
    ap (λ (l : List ℕ). out ++ l) (list_lines 2 "Net" (text "id" (decimal i) ∷ router ∷ hosts ∷ first_link ∷ second_link ∷ [])
    ∙ ap (λ (l : List ℕ). in_net l (lines 4 router) (lines 4 hosts) (lines 4 first_link) (lines 4 second_link ++ [])) (text_lines 4 "id" (decimal i) (decimal_is_word i h))
    ∙ ap (λ (l : List ℕ). in_net (blanks 4 ++ codes "id" ++ (32 ∷ [] ++ decimal i ++ 10 ∷ [])) (lines 4 router) (lines 4 hosts) (lines 4 first_link) l) (append-nil (lines 4 second_link)))
    ∙ net_parts out (blanks 2 ++ codes "Net" ++ 32 ∷ 91 ∷ 10 ∷ []) (blanks 4 ++ codes "id" ++ 32 ∷ []) (decimal i) (10 ∷ []) (lines 4 router) (lines 4 hosts) (lines 4 first_link) (lines 4 second_link) (blanks 2) (93 ∷ 10 ∷ [])

-- ---- a link of the ring

abbrev three_lines : ℕ → List ℕ → List ℕ → List ℕ → List ℕ
three_lines n a b d =
    (blanks n ++ codes "attach" ++ (32 ∷ [] ++ a ++ 10 ∷ [])) ++ ((blanks n ++ codes "attach" ++ (32 ∷ [] ++ b ++ 10 ∷ [])) ++ ((blanks n ++ codes "delay" ++ (32 ∷ [] ++ d ++ 10 ∷ [])) ++ []))

link_lines : (n : ℕ) (a b d : List ℕ) → IsWordText a → IsWordText b → IsWordText d → lines n (link a b d)
    ≡ blanks n ++ codes "link" ++ 32 ∷ 91 ∷ 10 ∷ [] ++ three_lines (n + 2) a b d ++ blanks n ++ 93 ∷ 10 ∷ []
link_lines n a b d wa wb wd =
    let inner : flat_map (lines (n + 2)) (text "attach" a ∷ text "attach" b ∷ text "delay" d ∷ []) ≡ three_lines (n + 2) a b d =
    rw (text_lines (n + 2) "attach" a wa, text_lines (n + 2) "attach" b wb, text_lines (n + 2) "delay" d wd) refl in
    list_lines n "link" (text "attach" a ∷ text "attach" b ∷ text "delay" d ∷ [])
    ∙ ap (λ (l : List ℕ). blanks n ++ codes "link" ++ 32 ∷ 91 ∷ 10 ∷ [] ++ l ++ blanks n ++ 93 ∷ 10 ∷ []) inner

abbrev pub link_begin : List ℕ
link_begin = codes "  link [" ++ 10 ∷ codes "    attach "

abbrev pub after_first : List ℕ
after_first = codes ":0(2)" ++ 10 ∷ codes "    attach "

abbrev pub after_second : List ℕ
after_second = codes ":0(3)" ++ 10 ∷ codes "    delay 0.000"

abbrev pub link_end : List ℕ
link_end = 10 ∷ codes "  ]" ++ 10 ∷ []

link_parts : (out a b d : List ℕ) → out ++ (blanks 2 ++ codes "link" ++ 32 ∷ 91 ∷ 10 ∷ [] ++ three_lines 4 (a ++ codes ":0(2)") (b ++ codes ":0(3)") (codes "0.000" ++ d) ++ blanks 2 ++ 93 ∷ 10 ∷ [])
    ≡ ((((((out ++ link_begin) ++ a) ++ after_first) ++ b) ++ after_second) ++ d) ++ link_end
link_parts out a b d = simp append_assoc refl

zeros_are_word : IsWordText (codes "0.000")
zeros_are_word = record { long = omega arith; all = refl }

pub link_is : (out : List ℕ) (size i d : ℕ) → i < 2 ^ 64 → (i + 1) % size < 2 ^ 64 → d < 2 ^ 64 → out ++ lines 2 (ring_link size i d)
    ≡ ((((((out ++ link_begin) ++ decimal i) ++ after_first) ++ decimal ((i + 1) % size)) ++ after_second) ++ decimal d) ++ link_end
unfolding ring_link
link_is out size i d hi hj hd =
    ap (λ (l : List ℕ). out ++ l) (link_lines 2 (decimal i ++ codes ":0(2)") (decimal ((i + 1) % size) ++ codes ":0(3)") (delay_text d)
    (then_word (decimal i) (codes ":0(2)") (decimal_is_word i hi) refl)
    (then_word (decimal ((i + 1) % size)) (codes ":0(3)") (decimal_is_word ((i + 1) % size) hj) refl)
    (then_word (codes "0.000") (decimal d) zeros_are_word (decimal_is_word d hd).all))
    ∙ link_parts out (decimal i) (decimal ((i + 1) % size)) (decimal d)

-- where there are two nets or more, all of them have their link
pub ring_is : (seed size : ℕ) → 2 ≤ size → flat_map (lines 2) (ring_links seed size) ≡ flat_map (λ (i : ℕ). lines 2 (ring_link size i (delay seed i))) (numbers size)
ring_is seed size two =
    let more : nat_lt size 2 ≡ false = grind (arith, nat_tests) in
    ap (λ (b : Bool). flat_map (lines 2) (if b then [] else map (λ (i : ℕ). ring_link size i (delay seed i)) (numbers size))) more
    ∙ flat_map-map (lines 2) (λ (i : ℕ). ring_link size i (delay seed i)) (numbers size)

-- ---- a pattern

abbrev servers_lines : List ℕ → List ℕ
servers_lines s = blanks 6 ++ codes "servers" ++ 32 ∷ 91 ∷ 10 ∷ [] ++ ((blanks 8 ++ codes "nhi" ++ (32 ∷ [] ++ s ++ 10 ∷ [])) ++ ((blanks 8 ++ codes "port" ++ (32 ∷ [] ++ codes "10" ++ 10 ∷ [])) ++ [])) ++ blanks 6 ++ 93 ∷ 10 ∷ []

abbrev pattern_lines : List ℕ → List ℕ → List ℕ
pattern_lines c s = blanks 4 ++ codes "pattern" ++ 32 ∷ 91 ∷ 10 ∷ [] ++ ((blanks 6 ++ codes "client" ++ (32 ∷ [] ++ c ++ 10 ∷ [])) ++ (servers_lines s ++ [])) ++ blanks 4 ++ 93 ∷ 10 ∷ []

ten_is_word : IsWordText (codes "10")
ten_is_word = record { long = omega arith; all = refl }

lines_of_servers : (s : List ℕ) → IsWordText s → lines 6 (list "servers" (text "nhi" s ∷ word "port" "10" ∷ [])) ≡ servers_lines s
lines_of_servers s ws =
    let inner : flat_map (lines 8) (text "nhi" s ∷ word "port" "10" ∷ []) ≡ (blanks 8 ++ codes "nhi" ++ (32 ∷ [] ++ s ++ 10 ∷ [])) ++ ((blanks 8 ++ codes "port" ++ (32 ∷ [] ++ codes "10" ++ 10 ∷ [])) ++ []) =
    rw (text_lines 8 "nhi" s ws, text_lines 8 "port" (codes "10") ten_is_word) refl in
    list_lines 6 "servers" (text "nhi" s ∷ word "port" "10" ∷ [])
    ∙ ap (λ (l : List ℕ). blanks 6 ++ codes "servers" ++ 32 ∷ 91 ∷ 10 ∷ [] ++ l ++ blanks 6 ++ 93 ∷ 10 ∷ []) inner

lines_of_pattern : (c s : List ℕ) → IsWordText c → IsWordText s → lines 4 (list "pattern" (text "client" c ∷ list "servers" (text "nhi" s ∷ word "port" "10" ∷ []) ∷ [])) ≡ pattern_lines c s
lines_of_pattern c s wc ws =
    let inner : flat_map (lines 6) (text "client" c ∷ list "servers" (text "nhi" s ∷ word "port" "10" ∷ []) ∷ []) ≡ (blanks 6 ++ codes "client" ++ (32 ∷ [] ++ c ++ 10 ∷ [])) ++ (servers_lines s ++ []) =
    rw (text_lines 6 "client" c wc, lines_of_servers s ws) refl in
    list_lines 4 "pattern" (text "client" c ∷ list "servers" (text "nhi" s ∷ word "port" "10" ∷ []) ∷ [])
    ∙ ap (λ (l : List ℕ). blanks 4 ++ codes "pattern" ++ 32 ∷ 91 ∷ 10 ∷ [] ++ l ++ blanks 4 ++ 93 ∷ 10 ∷ []) inner

abbrev pub pattern_begin : List ℕ
pattern_begin = codes "    pattern [" ++ 10 ∷ codes "      client "

abbrev pub after_client : List ℕ
after_client = codes ":1" ++ 10 ∷ codes "      servers [" ++ 10 ∷ codes "        nhi "

abbrev pub pattern_end : List ℕ
pattern_end = codes ":2(0)" ++ 10 ∷ codes "        port 10" ++ 10 ∷ codes "      ]" ++ 10 ∷ codes "    ]" ++ 10 ∷ []

pattern_parts : (out c s : List ℕ) → out ++ pattern_lines (c ++ codes ":1") (s ++ codes ":2(0)")
    ≡ ((((out ++ pattern_begin) ++ c) ++ after_client) ++ s) ++ pattern_end
pattern_parts out c s = simp append_assoc refl

pub pattern_is : (out : List ℕ) (i s : ℕ) → i < 2 ^ 64 → s < 2 ^ 64 → out ++ lines 4 (pattern_of i s)
    ≡ ((((out ++ pattern_begin) ++ decimal i) ++ after_client) ++ decimal s) ++ pattern_end
unfolding pattern_of
pattern_is out i s hi hs =
    ap (λ (l : List ℕ). out ++ l) (lines_of_pattern (decimal i ++ codes ":1") (decimal s ++ codes ":2(0)")
    (then_word (decimal i) (codes ":1") (decimal_is_word i hi) refl)
    (then_word (decimal s) (codes ":2(0)") (decimal_is_word s hs) refl))
    ∙ pattern_parts out (decimal i) (decimal s)

-- ---- the traffic

traffic_parts : (out l : List ℕ) → out ++ (blanks 2 ++ codes "traffic" ++ 32 ∷ 91 ∷ 10 ∷ [] ++ l ++ blanks 2 ++ 93 ∷ 10 ∷ []) ≡ ((out ++ (codes "  traffic [" ++ 10 ∷ [])) ++ l) ++ (codes "  ]" ++ 10 ∷ [])
traffic_parts out l = simp append_assoc refl

pub traffic_is : (out : List ℕ) (seed size : ℕ) → out ++ lines 2 (traffic seed size)
    ≡ ((out ++ (codes "  traffic [" ++ 10 ∷ [])) ++ flat_map (λ (i : ℕ). lines 4 (pattern_of i (server_net seed size i))) (numbers size)) ++ (codes "  ]" ++ 10 ∷ [])
unfolding traffic
traffic_is out seed size =
    ap (λ (l : List ℕ). out ++ l) (list_lines 2 "traffic" (map (λ (i : ℕ). pattern_of i (server_net seed size i)) (numbers size))
    ∙ ap (λ (l : List ℕ). blanks 2 ++ codes "traffic" ++ 32 ∷ 91 ∷ 10 ∷ [] ++ l ++ blanks 2 ++ 93 ∷ 10 ∷ []) (flat_map-map (lines 4) (λ (i : ℕ). pattern_of i (server_net seed size i)) (numbers size)))
    ∙ traffic_parts out (flat_map (λ (i : ℕ). lines 4 (pattern_of i (server_net seed size i))) (numbers size))

-- ---- the campus

abbrev heading : List ℕ
heading = codes "Net [" ++ 10 ∷ codes "  frequency 1000000000" ++ 10 ∷ []

heading_is : codes "Net" ++ 32 ∷ 91 ∷ 10 ∷ [] ++ lines 2 (word "frequency" "1000000000") ≡ heading
unfolding lines
heading_is = refl

campus_parts : (f n r t : List ℕ) → blanks 0 ++ codes "Net" ++ 32 ∷ 91 ∷ 10 ∷ [] ++ (f ++ ((n ++ r) ++ (t ++ []))) ++ blanks 0 ++ 93 ∷ 10 ∷ []
    ≡ ((((codes "Net" ++ 32 ∷ 91 ∷ 10 ∷ [] ++ f) ++ n) ++ r) ++ t) ++ 93 ∷ 10 ∷ []
campus_parts f n r t = simp append_assoc refl

inner_is : (seed size : ℕ) → flat_map (lines 2) (map net_of (numbers size) ++ ring_links seed size ++ traffic seed size ∷ [])
    ≡ (flat_map (λ (i : ℕ). lines 2 (net_of i)) (numbers size) ++ flat_map (lines 2) (ring_links seed size)) ++ (lines 2 (traffic seed size) ++ [])
inner_is seed size =
    flat_map-append (lines 2) (map net_of (numbers size) ++ ring_links seed size) (traffic seed size ∷ [])
    ∙ ap (λ (l : List ℕ). l ++ (lines 2 (traffic seed size) ++ [])) (flat_map-append (lines 2) (map net_of (numbers size)) (ring_links seed size)
    ∙ ap (λ (l : List ℕ). l ++ flat_map (lines 2) (ring_links seed size)) (flat_map-map (lines 2) net_of (numbers size)))

lines_of_tree : (seed size : ℕ) → campus_text seed size ≡ lines 0 (list "Net" (word "frequency" "1000000000" ∷ (map net_of (numbers size) ++ ring_links seed size ++ traffic seed size ∷ [])))
unfolding campus_text campus_tree lines
lines_of_tree seed size = refl

pub campus_is : (seed size : ℕ) → campus_text seed size
    ≡ (((heading ++ flat_map (λ (i : ℕ). lines 2 (net_of i)) (numbers size)) ++ flat_map (lines 2) (ring_links seed size)) ++ lines 2 (traffic seed size)) ++ 93 ∷ 10 ∷ []
campus_is seed size =
    let nets = flat_map (λ (i : ℕ). lines 2 (net_of i)) (numbers size) in
    let ring = flat_map (lines 2) (ring_links seed size) in
    lines_of_tree seed size
    ∙ list_lines 0 "Net" (word "frequency" "1000000000" ∷ (map net_of (numbers size) ++ ring_links seed size ++ traffic seed size ∷ []))
    ∙ ap (λ (l : List ℕ). blanks 0 ++ codes "Net" ++ 32 ∷ 91 ∷ 10 ∷ [] ++ (lines 2 (word "frequency" "1000000000") ++ l) ++ blanks 0 ++ 93 ∷ 10 ∷ []) (inner_is seed size)
    ∙ campus_parts (lines 2 (word "frequency" "1000000000")) nets ring (lines 2 (traffic seed size))
    ∙ ap (λ (l : List ℕ). (((l ++ nets) ++ ring) ++ lines 2 (traffic seed size)) ++ 93 ∷ 10 ∷ []) heading_is
