mod Tops
