pub mod TypeLayers
