-- Worked draws and texts. The words and the texts were found by another program, which follows the published
-- algorithm of the generator and the rules of the printing.
use Prim.Native.String.{String}
use Rattle.std.proofs.Common.{◌≡◌, ℕ, List, [], ◌∷◌, ◌++◌, refl}
use Rattle.std.specs.Prelude.{codes}
use Rattle.std.specs.List.{flat_map}
use Rattle.std.specs.Fmt.{digits}
use Rattle.rand_core.specs.Steps.{word_bytes, u32_at}
use Rattle.rand_core.specs.Pcg32Seed.{pcg32_seed}
use Rattle.rand_pcg.specs.Lcg.{state_after}
use Rattle.model_gen.specs.Draws.{generator_after, word_at}
use Rattle.model_gen.specs.Campus.{lines, router, hosts, first_link, second_link, net_of, ring_link, ring_links, pattern_of, traffic, campus_tree, campus_text}

-- lines, each with its end
abbrev ended : List String → List ℕ
ended [] = []
ended (line ∷ more) = codes line ++ 10 ∷ ended more

first_words : word_at 7 0 ∷ word_at 7 1 ∷ word_at 7 2 ∷ word_at 7 3 ∷ [] ≡ 2442223337 ∷ 414063806 ∷ 2743600285 ∷ 3524868804 ∷ []
unfolding word_at generator_after state_after pcg32_seed word_bytes u32_at
first_words = refl

ring_of_two : flat_map (lines 2) (ring_links 7 2) ≡ ended (
    "  link ["
    ∷ "    attach 0:0(2)"
    ∷ "    attach 1:0(3)"
    ∷ "    delay 0.000537"
    ∷ "  ]"
    ∷ "  link ["
    ∷ "    attach 1:0(2)"
    ∷ "    attach 0:0(3)"
    ∷ "    delay 0.000785"
    ∷ "  ]"
    ∷ [])
unfolding lines ring_link digits word_at generator_after state_after pcg32_seed word_bytes u32_at
ring_of_two = refl

traffic_of_two : lines 2 (traffic 7 2) ≡ ended (
    "  traffic ["
    ∷ "    pattern ["
    ∷ "      client 0:1"
    ∷ "      servers ["
    ∷ "        nhi 0:2(0)"
    ∷ "        port 10"
    ∷ "      ]"
    ∷ "    ]"
    ∷ "    pattern ["
    ∷ "      client 1:1"
    ∷ "      servers ["
    ∷ "        nhi 0:2(0)"
    ∷ "        port 10"
    ∷ "      ]"
    ∷ "    ]"
    ∷ "  ]"
    ∷ [])
unfolding lines traffic pattern_of digits word_at generator_after state_after pcg32_seed word_bytes u32_at
traffic_of_two = refl

campus_of_one : campus_text 7 1 ≡ ended (
    "Net ["
    ∷ "  frequency 1000000000"
    ∷ "  Net ["
    ∷ "    id 0"
    ∷ "    router ["
    ∷ "      id 0"
    ∷ "      interface ["
    ∷ "        idrange ["
    ∷ "          from 0"
    ∷ "          to 3"
    ∷ "        ]"
    ∷ "        bitrate 100000000"
    ∷ "      ]"
    ∷ "      graph ["
    ∷ "        ProtocolSession ["
    ∷ "          name ip"
    ∷ "        ]"
    ∷ "        ProtocolSession ["
    ∷ "          name OSPF"
    ∷ "        ]"
    ∷ "      ]"
    ∷ "    ]"
    ∷ "    host ["
    ∷ "      idrange ["
    ∷ "        from 1"
    ∷ "        to 2"
    ∷ "      ]"
    ∷ "      interface ["
    ∷ "        id 0"
    ∷ "        bitrate 10000000"
    ∷ "      ]"
    ∷ "      nhi_route ["
    ∷ "        dest default"
    ∷ "        interface 0"
    ∷ "      ]"
    ∷ "      graph ["
    ∷ "        ProtocolSession ["
    ∷ "          name client"
    ∷ "          start_time 0.001"
    ∷ "          file_size 20000"
    ∷ "        ]"
    ∷ "        ProtocolSession ["
    ∷ "          name server"
    ∷ "          port 10"
    ∷ "        ]"
    ∷ "        ProtocolSession ["
    ∷ "          name tcp"
    ∷ "        ]"
    ∷ "        ProtocolSession ["
    ∷ "          name ip"
    ∷ "        ]"
    ∷ "      ]"
    ∷ "    ]"
    ∷ "    link ["
    ∷ "      attach 0(0)"
    ∷ "      attach 1(0)"
    ∷ "      delay 0.00001"
    ∷ "    ]"
    ∷ "    link ["
    ∷ "      attach 0(1)"
    ∷ "      attach 2(0)"
    ∷ "      delay 0.00001"
    ∷ "    ]"
    ∷ "  ]"
    ∷ "  traffic ["
    ∷ "    pattern ["
    ∷ "      client 0:1"
    ∷ "      servers ["
    ∷ "        nhi 0:2(0)"
    ∷ "        port 10"
    ∷ "      ]"
    ∷ "    ]"
    ∷ "  ]"
    ∷ "]"
    ∷ [])
unfolding campus_text campus_tree net_of router hosts first_link second_link traffic pattern_of digits word_at generator_after state_after pcg32_seed word_bytes u32_at
campus_of_one = refl
